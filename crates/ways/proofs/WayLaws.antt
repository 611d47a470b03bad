-- The ways, in the shape of what their proofs need.
-- Assumes nothing.
use Prim.Native.Nat.{ℕ, ◌+◌, ◌≤◌, ◌%◌}
use mathlib.Core.Bool.{Bool, true, false, cond}
use mathlib.Core.List.{List, []}
use mathlib.Core.Path.{◌≡◌, refl, sym, ap, ◌∙◌}
use native.Mathlib.Omega.{arith}
use lib.ListN.{length, get_or}
use borrow.Author.Tests.{eq-eqb, ne_eqb}
use Rattle.rules.specs.declared.Target.{Target}
use Rattle.rules.specs.declared.Target.TheVariants.{Unit as UnitAt, Lacking, Other}
use Rattle.rules.specs.declared.Action.{Action}
use Rattle.rules.specs.declared.Action.TheVariants.{Pass, Next, Quit, Back as GoBack, Retry, Go}
use Rattle.rules.specs.declared.Refusal.{Refusal}
use Rattle.rules.specs.declared.Refusal.TheVariants.{Syntax, Variable, Anchor, Security, Disallowed}
use Rattle.rules.specs.declared.Complaint.{Complaint}
use Rattle.rules.specs.declared.Complaint.TheVariants.{Nothing, Undefined, Secured, Misused}
use Rattle.rules.specs.Bytes.{part}
use Rattle.rules.specs.Tlv.{head_at}
use Rattle.rules.specs.Tlvs.{tlvs, plain}
use Rattle.rules.specs.Pieces.{named}
use Rattle.rules.specs.Shape.{attribute}
use Rattle.rules.specs.Page.{service, code_at}
use Rattle.rules.specs.Reference.{target}
use Rattle.rules.specs.Handler.{handle}
use Rattle.rules.specs.Card.{free}
use Rattle.rules.specs.Store.{area, writing_in, worse}
use Rattle.rules.specs.Value.{complaint}
use Rattle.rules.specs.Command.{execute_of, type_at, execute_complaint, allowed_by, allowed}
use Rattle.rules.specs.Step.{setting_complaint, byte_code}
use Rattle.slots.specs.Slots.{slots}
use Rattle.variable.specs.Refused.{refusal_of}
use Rattle.variable.specs.View.{seen, view}
use Rattle.rules.proofs.IsolationRows.{tlv_in}
use Rattle.unit.proofs.Units.{code_tlv}
use Rattle.branching.specs.Branch.{branch_choice}
use Rattle.ways.specs.declared.Way.{Way}
use Rattle.ways.specs.declared.Way.TheVariants.{Enter, Place, End, Refuse, Away, Back, Store, Length}
use Rattle.ways.specs.Way.{send_tlv, way_to, branch_way, action_way, exit_way, unless_way, length_way, list_way, send_way, way_by, code_way, way_at}
use Rattle.std.specs.Prelude.{Option, None, Result, Ok, Err, Some}
use Rattle.rules.specs.declared.Tlv.{Tlv}
use Rattle.rules.specs.declared.Span.{Span}
use Rattle.rules.specs.Built.{some_tlv}
use Rattle.branching.specs.Branch.{towards}

module _ (page w : List ℕ) (start stop : ℕ) (e : w ≡ part page start stop) (t : Target) (f : t ≡ target page w) where
  pub to_unit : (k : ℕ) → t ≡ UnitAt k → Enter k ≡ way_to start stop (target page (part page start stop))
  unfolding way_to
  to_unit k x = rw (← e, ← f, x) refl

  pub to_lacking : t ≡ Lacking → Refuse Anchor ≡ way_to start stop (target page (part page start stop))
  unfolding way_to
  to_lacking x = rw (← e, ← f, x) refl

  pub to_other : t ≡ Other → Away start stop ≡ way_to start stop (target page (part page start stop))
  unfolding way_to
  to_other x = rw (← e, ← f, x) refl

pub ruleset to_laws = (to_unit, to_lacking, to_other)

module _ (page env temp perm : List ℕ) (start stop : ℕ) (b : Result (Option Span) Refusal) (e : b ≡ branch_choice (view page env temp perm) start stop) where
  pub branch_refused : (why : Refusal) → b ≡ Err why → Refuse why ≡ branch_way page stop (branch_choice (view page env temp perm) start stop)
  unfolding branch_way
  branch_refused why x = rw (← e, x) refl

  pub branch_onwards : b ≡ (Ok None) → Place stop ≡ branch_way page stop (branch_choice (view page env temp perm) start stop)
  unfolding branch_way
  branch_onwards x = rw (← e, x) refl

  pub branch_towards : (from to : ℕ) → b ≡ towards from to → (w : Way) → w ≡ way_to from to (target page (part page from to)) → w ≡ branch_way page stop (branch_choice (view page env temp perm) start stop)
  unfolding branch_way
  branch_towards from to x w y = rw (← e, x) y

pub ruleset branch_laws = (branch_refused, branch_onwards, branch_towards)

module _ (page : List ℕ) (unit tag start stop n : ℕ) (e : n ≡ attribute page tag start stop) where
  pub exit_ends : n % 2 ≡ 1 → End true ≡ exit_way page unit tag start stop
  unfolding exit_way
  exit_ends x = rw (← e, eq-eqb _ _ x) refl

  module _ (odd : n % 2 ≡ 1 → ⊥) (a : Action) (f : a ≡ handle page unit 0x10) where
    asks : action_way page stop a ≡ exit_way page unit tag start stop
    unfolding exit_way
    asks = rw (← e, ne_eqb _ _ odd, ← f) refl

    pub exit_pass : a ≡ Pass → End true ≡ exit_way page unit tag start stop
    unfolding action_way
    exit_pass x = rw (← asks, x) refl

    pub exit_next : a ≡ Next → Place stop ≡ exit_way page unit tag start stop
    unfolding action_way
    exit_next x = rw (← asks, x) refl

    pub exit_quit : a ≡ Quit → End true ≡ exit_way page unit tag start stop
    unfolding action_way
    exit_quit x = rw (← asks, x) refl

    pub exit_back : a ≡ GoBack → Back ≡ exit_way page unit tag start stop
    unfolding action_way
    exit_back x = rw (← asks, x) refl

    pub exit_retry : a ≡ Retry → End true ≡ exit_way page unit tag start stop
    unfolding action_way
    exit_retry x = rw (← asks, x) refl

    pub exit_go : (from to : ℕ) → a ≡ Go from to → (w : Way) → w ≡ way_to from to (target page (part page from to)) → w ≡ exit_way page unit tag start stop
    unfolding action_way
    exit_go from to x w y = rw (← asks, x) y

pub ruleset exit_laws = (exit_ends, exit_pass, exit_next, exit_quit, exit_back, exit_retry, exit_go)

-- a complaint that comes to a refusal, and one that comes to none
unrefused : (w : Complaint) (v : Way) → refusal_of w ≡ None → v ≡ unless_way w v
unfolding unless_way refusal_of
unrefused Nothing v e = refl
unrefused Undefined v e = let z : ◌≡◌ {A = Option Refusal} (Some Variable) None = e in cc
unrefused Secured v e = let z : ◌≡◌ {A = Option Refusal} (Some Security) None = e in cc
unrefused Misused v e = let z : ◌≡◌ {A = Option Refusal} (Some Syntax) None = e in cc

refused : (w : Complaint) (why : Refusal) (v : Way) → refusal_of w ≡ Some why → Refuse why ≡ unless_way w v
unfolding unless_way refusal_of
refused Nothing why v e = let z : ◌≡◌ {A = Option Refusal} None (Some why) = e in cc
refused Undefined why v e = let z : ◌≡◌ {A = Option Refusal} (Some Variable) (Some why) = e in cc
refused Secured why v e = let z : ◌≡◌ {A = Option Refusal} (Some Security) (Some why) = e in cc
refused Misused why v e = let z : ◌≡◌ {A = Option Refusal} (Some Syntax) (Some why) = e in cc

module _ (w : Complaint) (v : Way) (o : Option Refusal) (by : o ≡ refusal_of w) where
  pub unless_free : o ≡ None → v ≡ unless_way w v
  unless_free x = unrefused w v (sym by ∙ x)

  pub unless_refused : (why : Refusal) → o ≡ Some why → Refuse why ≡ unless_way w v
  unless_refused why x = refused w why v (sym by ∙ x)

pub ruleset unless_laws = (unless_free, unless_refused)

-- what is wrong, as it was found
pub unless_found : (r v : Way) (w x : Complaint) → r ≡ unless_way w v → w ≡ x → r ≡ unless_way x v
unless_found r v w x e f = e ∙ ap (λ (y : Complaint). unless_way y v) f

module _ (page env temp perm : List ℕ) (start stop n : ℕ) (e : n ≡ get_or page start 0) (h : Option Tlv) (f : h ≡ head_at page (start + 1) stop) where
  pub list_none : h ≡ None → (w : Way) → w ≡ unless_way (worse (writing_in (service page) (area n)) (complaint (view page env temp perm) [] (named (part page 0 0)))) (Length n 0 0 stop) → w ≡ list_way (view page env temp perm) (get_or page start 0) stop (head_at page (start + 1) stop)
  unfolding list_way length_way view seen
  list_none x w y = rw (← f, x, ← e) y

  module _ (v : Tlv) (x : h ≡ Some v) where
    pub list_inside : stop ≤ length page → v.stop ≤ length page
    list_inside l = let i = tlv_in page (start + 1) stop v.tag v.start v.stop (sym f ∙ x) in omega arith

    pub list_held : (w : Way) → w ≡ unless_way (worse (writing_in (service page) (area n)) (complaint (view page env temp perm) [] (named (part page v.start v.stop)))) (Length n v.start v.stop stop) → w ≡ list_way (view page env temp perm) (get_or page start 0) stop (head_at page (start + 1) stop)
    unfolding list_way length_way view seen
    list_held w y = rw (← f, x, ← e) y

pub ruleset list_laws = (list_none, list_inside, list_held)

module _ (tag start stop : ℕ) (b c : Bool) (e : b ≡ c) where
  pub allowed_sent : b ≡ true → send_tlv tag start stop ≡ cond c (send_tlv tag start stop) (Refuse Disallowed)
  allowed_sent x = rw (← e, x) refl

  pub allowed_not : b ≡ false → Refuse Disallowed ≡ cond c (send_tlv tag start stop) (Refuse Disallowed)
  allowed_not x = rw (← e, x) refl

pub ruleset allowed_laws = (allowed_sent, allowed_not)

pub send_is : (page env temp perm : List ℕ) (tag start stop : ℕ) (w : Complaint) → w ≡ execute_complaint (view page env temp perm) (execute_of page tag start stop) → (v : Way) → v ≡ cond (allowed_by (get_or page (type_at (execute_of page tag start stop)) 0) (get_or (slots env) 2 free)) (send_tlv tag start stop) (Refuse Disallowed)
    → (r : Way) → r ≡ unless_way w v → r ≡ send_way (view page env temp perm) tag start stop
unfolding send_way allowed view seen
send_is page env temp perm tag start stop w e v f r g = rw (← e, ← f) g

module _ (page env temp perm : List ℕ) (unit tag start stop : ℕ) where
  abbrev codes : Way
  codes = code_way (view page env temp perm) unit (some_tlv tag start stop)

  pub code_set : tag ≡ 0x40 → (w : Way) → w ≡ unless_way (setting_complaint (view page env temp perm) [] (tlvs 1 page start stop)) (Store start stop) → w ≡ codes
  unfolding code_way way_by byte_code view seen
  code_set x w e = simp (eq-eqb _ _ x) e

  module _ (n₁ : tag ≡ 0x40 → ⊥) where
    pub code_back : tag % 128 ≡ 0x43 → Back ≡ codes
    unfolding code_way way_by byte_code plain view seen
    code_back x = simp (ne_eqb _ _ n₁, eq-eqb _ _ x) refl

    module _ (n₂ : tag % 128 ≡ 0x43 → ⊥) where
      pub code_branch : tag ≡ 0x44 → (w : Way) → w ≡ branch_way page stop (branch_choice (view page env temp perm) start stop) → w ≡ codes
      unfolding code_way way_by byte_code plain view seen
      code_branch x w e = simp (ne_eqb _ _ n₁, ne_eqb _ _ n₂, eq-eqb _ _ x) e

      module _ (n₃ : tag ≡ 0x44 → ⊥) where
        pub code_exit : tag % 128 ≡ 0x45 → (w : Way) → w ≡ exit_way page unit tag start stop → w ≡ codes
        unfolding code_way way_by byte_code plain view seen
        code_exit x w e = simp (ne_eqb _ _ n₁, ne_eqb _ _ n₂, ne_eqb _ _ n₃, eq-eqb _ _ x) e

        module _ (n₄ : tag % 128 ≡ 0x45 → ⊥) where
          pub code_send : tag % 128 ≡ 0x46 → (w : Way) → w ≡ send_way (view page env temp perm) tag start stop → w ≡ codes
          unfolding code_way way_by byte_code plain view seen
          code_send x w e = simp (ne_eqb _ _ n₁, ne_eqb _ _ n₂, ne_eqb _ _ n₃, ne_eqb _ _ n₄, eq-eqb _ _ x) e

          module _ (n₅ : tag % 128 ≡ 0x46 → ⊥) where
            pub code_length : tag ≡ 0x48 → (w : Way) → w ≡ list_way (view page env temp perm) (get_or page start 0) stop (head_at page (start + 1) stop) → w ≡ codes
            unfolding code_way way_by byte_code plain view seen
            code_length x w e = simp (ne_eqb _ _ n₁, ne_eqb _ _ n₂, ne_eqb _ _ n₃, ne_eqb _ _ n₄, ne_eqb _ _ n₅, eq-eqb _ _ x) e

            pub code_other : (tag ≡ 0x48 → ⊥) → Refuse Syntax ≡ codes
            unfolding code_way way_by byte_code plain view seen
            code_other x = simp (ne_eqb _ _ n₁, ne_eqb _ _ n₂, ne_eqb _ _ n₃, ne_eqb _ _ n₄, ne_eqb _ _ n₅, ne_eqb _ _ x) refl

pub ruleset code_laws = (code_set, code_back, code_branch, code_exit, code_send, code_length, code_other)

module _ (page s env temp perm : List ℕ) (p : s ≡ page) (unit place : ℕ) (h : Option Tlv) (e : h ≡ code_at s unit place) where
  pub at_end : h ≡ None → End false ≡ way_at (view page env temp perm) unit place
  unfolding way_at code_way view seen
  at_end x = rw (← p, ← e, x) refl

  module _ (v : Tlv) (x : h ≡ Some v) where
    pub at_ordered : v.start ≤ v.stop
    at_ordered = (code_tlv s unit place (sym e ∙ x)).1

    pub at_inside : v.stop ≤ length s
    at_inside = (code_tlv s unit place (sym e ∙ x)).2

    pub at_code : (w : Way) → w ≡ code_way (view s env temp perm) unit (Some v) → w ≡ way_at (view page env temp perm) unit place
    unfolding way_at view seen
    at_code w y = rw (← p, ← e, x) y

pub ruleset at_laws = (at_end, at_ordered, at_inside, at_code)
