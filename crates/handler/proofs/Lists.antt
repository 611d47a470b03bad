-- The ways through the search for a modifier: what is left to be searched decides as the whole does.
-- Assumes nothing.
use Prim.Native.Nat.{ℕ, zero, suc, ◌+◌, ◌-◌, ◌≤◌, ◌<◌}
use mathlib.Core.Bool.{Bool, true, false, cond}
use mathlib.Core.List.{List}
use mathlib.Core.Path.{◌≡◌, refl, sym, ap, ◌∙◌}
use native.Mathlib.Omega.{arith}
use native.Mathlib.Numerals.{sub-one, add-one}
use lib.ListN.{length}
use lib.Dec.{eqb}
use borrow.Author.Tests.{ne_eqb}
use Rattle.rules.specs.declared.Action.{Action}
use Rattle.rules.specs.declared.Action.TheVariants.{Pass, Next, Quit, Back, Retry, Go}
use Rattle.rules.specs.Tlvs.{Tlvs, done, past, tlv, tlvs, plain, count_in, count}
use Rattle.rules.specs.Page.{content_at, row_of, page_head, page_row, unit_at, unit_row}
use Rattle.rules.specs.Handler.{modifier_at, or_else, last_in, default, handle}
use Rattle.leaf.proofs.Cases.{both}
use Rattle.rules.specs.declared.Span.{Span}
use Rattle.page.specs.Span.{span_of}
use Rattle.page.proofs.Spans.{page_within, span_row, span_within}
use Rattle.unit.specs.Nth.{nth_in}
use Rattle.unit.proofs.Nths.{unit_within}
use Rattle.handler.specs.Search.{action_of, decides, list_of}

or_pass : (a : Action) → or_else a Pass ≡ a
unfolding or_else
or_pass Pass = refl
or_pass Next = refl
or_pass Quit = refl
or_pass Back = refl
or_pass Retry = refl
or_pass (Go start stop) = refl

pass_or : (a : Action) → or_else Pass a ≡ a
unfolding or_else
pass_or a = refl

or_assoc : (a b c : Action) → or_else (or_else a b) c ≡ or_else a (or_else b c)
unfolding or_else
or_assoc Pass b c = refl
or_assoc Next b c = refl
or_assoc Quit b c = refl
or_assoc Back b c = refl
or_assoc Retry b c = refl
or_assoc (Go start stop) b c = refl

or_decided : (a b : Action) → decides a ≡ true → or_else a b ≡ a
unfolding or_else decides
or_decided Pass b e = cc
or_decided Next b e = refl
or_decided Quit b e = refl
or_decided Back b e = refl
or_decided Retry b e = refl
or_decided (Go start stop) b e = refl

or_passed : (a b : Action) → decides a ≡ false → or_else a b ≡ b
unfolding or_else decides
or_passed Pass b e = refl
or_passed Next b e = cc
or_passed Quit b e = cc
or_passed Back b e = cc
or_passed Retry b e = cc
or_passed (Go start stop) b e = cc

-- the first n modifiers of a row, from the last to the first
unfoldable pub last_to : List ℕ → ℕ → Tlvs → ℕ → Action
last_to s g row zero = Pass
last_to s g row (suc n) = or_else (action_of s g (nth_in 0x08 n row)) (last_to s g row n)

module _ (s : List ℕ) (g tag at start stop : ℕ) (rest : Tlvs) where
  unfoldable whole : Tlvs
  whole = tlv tag at start stop rest

  last_other : eqb (plain tag) 0x08 ≡ false → (n : ℕ) → last_to s g whole n ≡ last_to s g rest n
  unfolding last_to nth_in whole
  last_other e zero = refl
  last_other e (suc n) = rw (last_other e n) (simp e)

  last_first : eqb (plain tag) 0x08 ≡ true → (n : ℕ) → last_to s g whole (suc n) ≡ or_else (last_to s g rest n) (modifier_at s g (content_at s tag start stop) stop)
  unfolding last_to nth_in whole action_of
  last_first e zero = simp e (or_pass _ ∙ sym (pass_or _))
  last_first e (suc n) =
      rw (last_first e n)
      (simp (e, ne_eqb (suc n) 0 (omega arith), sub-one (suc n)) (sym (or_assoc (action_of s g (nth_in 0x08 n rest)) (last_to s g rest n) (modifier_at s g (content_at s tag start stop) stop))))

count_more : (t n : ℕ) (row : Tlvs) → count_in t (n + 1) row ≡ suc (count_in t n row)
unfolding count_in
count_more t n (done p) = add-one n
count_more t n (past p) = add-one n
count_more t n (tlv tag at start stop rest) =
    both (eqb (plain tag) t) (λ e. simp e (count_more t (n + 1) rest)) (λ e. simp e (count_more t n rest))

module _ (s : List ℕ) (g : ℕ) where
  all_done : (p : ℕ) → last_to s g (done p) (count_in 0x08 0 (done p)) ≡ last_in s g (done p)
  unfolding last_to last_in count_in
  all_done p = refl

  all_past : (p : ℕ) → last_to s g (past p) (count_in 0x08 0 (past p)) ≡ last_in s g (past p)
  unfolding last_to last_in count_in
  all_past p = refl

  module _ (tag at start stop : ℕ) (rest : Tlvs) where
    all_first : eqb (plain tag) 0x08 ≡ true → last_to s g rest (count_in 0x08 0 rest) ≡ last_in s g rest → last_to s g (tlv tag at start stop rest) (count_in 0x08 0 (tlv tag at start stop rest)) ≡ last_in s g (tlv tag at start stop rest)
    unfolding last_in count_in whole
    all_first e f = simp (e, count_more 0x08 0 rest) (last_first s g tag at start stop rest e (count_in 0x08 0 rest) ∙ ap (λ (a : Action). or_else a (modifier_at s g (content_at s tag start stop) stop)) f)

    all_other : eqb (plain tag) 0x08 ≡ false → last_to s g rest (count_in 0x08 0 rest) ≡ last_in s g rest → last_to s g (tlv tag at start stop rest) (count_in 0x08 0 (tlv tag at start stop rest)) ≡ last_in s g (tlv tag at start stop rest)
    unfolding last_in count_in whole
    all_other e f = simp e (last_other s g tag at start stop rest e (count_in 0x08 0 rest) ∙ f ∙ sym (or_pass _))

-- all of them: the definition's search of a row
last_all : (s : List ℕ) (g : ℕ) (row : Tlvs) → last_to s g row (count 0x08 row) ≡ last_in s g row
unfolding count
last_all s g (done p) = all_done s g p
last_all s g (past p) = all_past s g p
last_all s g (tlv tag at start stop rest) =
    both (eqb (plain tag) 0x08) (λ e. all_first s g tag at start stop rest e (last_all s g rest)) (λ e. all_other s g tag at start stop rest e (last_all s g rest))

list_within : (s : List ℕ) (k list : ℕ) → (list_of s k list).end ≤ length s
unfolding list_of
list_within s k list =
    both (eqb list 0) (λ t. simp t (span_within s (length s) (unit_at s k) (unit_within s k)).1)
    (λ t. simp t (span_within s (length s) (page_head s) (page_within s)).1)

pub search_inside : (s : List ℕ) (k list : ℕ) (r : Span) → r ≡ list_of s k list → r.end ≤ length s
search_inside s k list r is = rw is (list_within s k list)

-- what the lists behind a list come to, and what the search comes to from a list on
unfoldable pub behind : List ℕ → ℕ → ℕ → Action
behind s g list = cond (eqb list 0) (or_else (last_in s g (page_row s)) (default g)) (default g)

unfoldable pub onward : List ℕ → ℕ → ℕ → ℕ → Action
onward s k g list = cond (eqb list 0) (handle s k g) (cond (eqb list 1) (or_else (last_in s g (page_row s)) (default g)) (default g))

module _ (s : List ℕ) (k g : ℕ) where
  pub search_starts : onward s k g 0 ≡ handle s k g
  unfolding onward
  search_starts = refl

  by_row : (r : Span) (list : ℕ) (row : Tlvs) → tlvs 0 s r.from r.end ≡ row → or_else (last_in s g (tlvs 0 s r.from r.end)) (behind s g list) ≡ or_else (last_in s g row) (behind s g list)
  by_row r list row e = rw e

  enters : (list : ℕ) → list < 2 → or_else (last_in s g (tlvs 0 s (list_of s k list).from (list_of s k list).end)) (behind s g list) ≡ onward s k g list
  unfolding onward behind handle list_of unit_row page_row
  enters zero h = by_row (span_of s (unit_at s k)) 0 (row_of s (unit_at s k)) (span_row s (unit_at s k))
  enters (suc zero) h = by_row (span_of s (page_head s)) 1 (row_of s (page_head s)) (span_row s (page_head s))
  enters (suc (suc list)) h = absurd (omega arith)

  leaves : (list : ℕ) → list < 2 → behind s g list ≡ onward s k g (list + 1)
  unfolding onward behind
  leaves zero h = refl
  leaves (suc zero) h = refl
  leaves (suc (suc list)) h = absurd (omega arith)

  module _ (list : ℕ) (w : Action) where
    pub search_ends : onward s k g list ≡ w → 2 ≤ list → (a : Action) → a ≡ default g → a ≡ w
    unfolding onward
    search_ends inv h a e = e ∙ sym (simp (ne_eqb list 0 (omega arith), ne_eqb list 1 (omega arith))) ∙ inv

    pub search_enters : (r : Span) → r ≡ list_of s k list → onward s k g list ≡ w → list < 2 → (n : ℕ) → n ≡ count 0x08 (tlvs 0 s r.from r.end) → or_else (last_to s g (tlvs 0 s r.from r.end) n) (behind s g list) ≡ w
    search_enters r is inv h n e =
        ap (λ (a : Action). or_else a (behind s g list)) ((rw e) ∙ last_all s g (tlvs 0 s r.from r.end))
        ∙ (rw is (enters list h)) ∙ inv

module _ (s : List ℕ) (k g list : ℕ) (row : Tlvs) (w : Action) where
  pub search_leaves : (i : ℕ) → or_else (last_to s g row i) (behind s g list) ≡ w → i ≤ 0 → list < 2 → onward s k g (list + 1) ≡ w
  unfolding last_to
  search_leaves zero inv h below = sym (leaves s k g list below) ∙ sym (pass_or _) ∙ inv
  search_leaves (suc i) inv h below = absurd (omega arith)

  module _ (a : Action) (d : Bool) (e : d ≡ decides a) where
    next : (i : ℕ) → or_else (last_to s g row i) (behind s g list) ≡ w → 0 < i → a ≡ action_of s g (nth_in 0x08 (i - 1) row) → or_else a (or_else (last_to s g row (i - 1)) (behind s g list)) ≡ w
    unfolding last_to
    next zero inv h f = absurd (omega arith)
    next (suc i) inv h f = simp (sub-one (suc i)) (rw (simp (sub-one (suc i)) at f) (sym (or_assoc _ _ _) ∙ inv))

    pub search_finds : (i : ℕ) → or_else (last_to s g row i) (behind s g list) ≡ w → 0 < i → a ≡ action_of s g (nth_in 0x08 (i - 1) row) → d ≡ true → a ≡ w
    search_finds i inv h f x = sym (or_decided a _ (sym e ∙ x)) ∙ next i inv h f

    pub search_passes : (i : ℕ) → or_else (last_to s g row i) (behind s g list) ≡ w → 0 < i → a ≡ action_of s g (nth_in 0x08 (i - 1) row) → d ≡ false → or_else (last_to s g row (i - 1)) (behind s g list) ≡ w
    search_passes i inv h f x = sym (or_passed a _ (sym e ∙ x)) ∙ next i inv h f

pub ruleset search_laws = (search_starts, search_ends, search_inside, search_enters, search_leaves, search_finds, search_passes)
