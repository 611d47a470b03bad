-- The part of a card that values are read from: the running page and the three areas.
use Rattle.std.specs.Prelude.{List, [], ℕ}
use Rattle.rules.specs.Card.{Slot, Record, Card, unlocked, empty}
use Rattle.slots.specs.Slots.{slots}
use Rattle.records.specs.Records.{records}
use Rattle.variable.specs.declared.View.{View}

-- a card with nothing else
unfoldable pub seen : List ℕ → List Slot → List Slot → List Record → Card
seen page environment temporary permanent =
    record {
      environment = environment;
      permanent = permanent;
      temporary = temporary;
      guard = unlocked;
      history = record { entries = []; pointer = 0 };
      run = record { page = page; unit = 0; place = 0; hand = empty };
      wanted = [];
    }

-- what a card shows
unfoldable pub bare : Card → Card
bare c = seen c.run.page c.environment c.temporary c.permanent

-- what the lent arrays show
unfoldable pub view : List ℕ → List ℕ → List ℕ → List ℕ → Card
view page env temp perm = seen page (slots env) (slots temp) (records perm)

-- what a view shows
abbrev pub viewed : View → Card
viewed v = view v.page.now v.environment.now v.temporary.now v.permanent.now
