-- The ways through `follow`, `follow_in`, `value_complaint`, `value_is`, `try_case`, `choose`, `branch_for` and `branch_choice`.
-- Assumes nothing.
use Prim.Native.Nat.{ℕ, ◌+◌, ◌-◌, ◌≤◌, ◌<◌}
use mathlib.Core.Bool.{Bool, true, false}
use mathlib.Core.List.{List, [], append-nil}
use mathlib.Core.Path.{◌≡◌, refl, sym, ◌∙◌}
use lib.ListN.{get_or, take, drop}
use borrow.Author.Tests.{eq-eqb, ne_eqb}
use Rattle.rules.specs.declared.Choice.{Choice}
use Rattle.rules.specs.declared.Choice.TheVariants.{Follow, Stay, Unknown}
use Rattle.rules.specs.declared.Complaint.{Complaint}
use Rattle.rules.specs.declared.Complaint.TheVariants.{Nothing, Undefined, Secured, Misused}
use Rattle.rules.specs.declared.Refusal.TheVariants.{Syntax, Variable, Security}
use Rattle.rules.specs.Bytes.{same, among}
use Rattle.rules.specs.Tlv.{head_at}
use Rattle.rules.specs.Tlvs.{Tlvs, tlvs}
use Rattle.rules.specs.Page.{service, content_at}
use Rattle.rules.specs.Card.{Slot, free, held, Card}
use Rattle.rules.specs.Store.{area, unserved, rank, worse, read, reading, undefined_in, value_bytes}
use Rattle.rules.specs.Value.{pieces_of, defined, complaint, joined}
use Rattle.rules.specs.Step.{case_value, cases_complaint, follow, follow_in, is_undefined, case_choice, choose}
use Rattle.leaf.proofs.Cases.{both, was}
use Rattle.tlv.proofs.Rows.{row_done, row_tlv, row_past}
use Rattle.variable.specs.Refused.{refusal_of}
use Rattle.variable.specs.View.{seen, view}
use Rattle.variable.proofs.ComplaintLaws.{nothing_worse}
use Rattle.piece.specs.Piece.{pieces_from}
use Rattle.branching.specs.Branch.{tried, refused_by, branch_for, branch_slot, branch_choice}
use Rattle.std.specs.Prelude.{Option, Some, None, Result, Ok, Err}
use Rattle.rules.specs.declared.Tlv.{Tlv}
use Rattle.rules.specs.declared.Span.{Span}
use Rattle.rules.specs.declared.Refusal.{Refusal}
use Rattle.branching.specs.Branch.{towards}

module _ (h : Option Tlv) where
  pub follow_this : (v : Tlv) → h ≡ Some v → Follow v.start v.stop ≡ follow h
  unfolding follow
  follow_this v x = simp x

  pub follow_none : h ≡ None → Stay ≡ follow h
  unfolding follow
  follow_none x = simp x

  module _ (s : List ℕ) (r : Option Tlv) (is : r ≡ h) where
    pub follow_in_this : (v : Tlv) → r ≡ Some v → (k : Option Tlv) → k ≡ head_at s v.start v.stop → (c : Choice) → c ≡ follow k → c ≡ follow_in s h
    unfolding follow_in
    follow_in_this v x k f c e = simp (was is x, ← f) e

    pub follow_in_none : r ≡ None → Stay ≡ follow_in s h
    unfolding follow_in
    follow_in_none x = simp (was is x)

pub ruleset follow_laws = (follow_this, follow_none, follow_in_this, follow_in_none)

not_known : (r : Complaint) → defined false r ≡ r
unfolding defined
not_known Nothing = refl
not_known Undefined = refl
not_known Secured = refl
not_known Misused = refl

-- the value of a case
module _ (c : Card) (s : List ℕ) (tag from to : ℕ) where
  module _ (l : tag ≡ 0x0D) (n : ℕ) (f : n ≡ get_or s from 0) where
    pub value_first_told : (r : Complaint) → r ≡ reading c n → r ≡ complaint c [] (case_value s tag from to)
    unfolding complaint case_value among
    value_first_told r e = simp (eq-eqb _ _ l, ← f, not_known, nothing_worse) e

    pub value_first_is : (v bytes : List ℕ) → v ≡ value_bytes (read c n) → (b : Bool) → b ≡ same v bytes → b ≡ same (joined c (case_value s tag from to)) bytes
    unfolding joined case_value
    value_first_is v bytes e b g = simp (eq-eqb _ _ l, ← f, ← e, append-nil) g

  module _ (l : tag ≡ 0x0D → ⊥) where
    pub value_inline_told : (r : Complaint) → r ≡ complaint c (take (0 - 0) (drop 0 s)) (pieces_of s tag from to) → r ≡ complaint c [] (case_value s tag from to)
    unfolding case_value
    value_inline_told r e = simp (ne_eqb _ _ l) e

    pub value_inline_is : (p : ℕ) → p ≡ content_at s tag from to → (bytes : List ℕ) (b : Bool) → b ≡ same (joined c (pieces_from false s p to)) bytes → b ≡ same (joined c (case_value s tag from to)) bytes
    unfolding case_value pieces_of pieces_from
    value_inline_is p f bytes b e = simp (ne_eqb _ _ l, ← f) e

pub ruleset value_laws = (value_first_told, value_first_is, value_inline_told, value_inline_is)

module _ (page env temp perm bytes : List ℕ) (stop : ℕ) (h r : Option Tlv) (is : r ≡ h) where
  abbrev c : Card
  c = view page env temp perm

  pub tried_none : r ≡ None → None ≡ tried c bytes stop h
  unfolding tried
  tried_none x = simp (was is x)

  module _ (v : Tlv) (x : r ≡ Some v) (k : Complaint) (e : k ≡ complaint c [] (case_value page v.tag v.start v.stop)) (u : Bool) (f : u ≡ is_undefined k) where
    pub tried_undefined : u ≡ true → Some Unknown ≡ tried c bytes stop h
    unfolding tried view seen
    tried_undefined y = simp (was is x, ← e, was f y)

    module _ (y : u ≡ false) (b : Bool) (g : b ≡ same (joined c (case_value page v.tag v.start v.stop)) bytes) where
      pub tried_match : b ≡ true → (d : Choice) → d ≡ follow_in page (head_at page v.stop stop) → Some d ≡ tried c bytes stop h
      unfolding tried view seen
      tried_match z d w = simp (was is x, ← e, was f y, was g z, ← w)

      pub tried_other : b ≡ false → None ≡ tried c bytes stop h
      unfolding tried view seen
      tried_other z = simp (was is x, ← e, was f y, was g z)

pub ruleset tried_laws = (tried_none, tried_undefined, tried_match, tried_other)

-- one case and the rest
unfoldable or_rest : Choice → Option Choice → Choice
or_rest rest None = rest
or_rest rest (Some d) = d

choice_tried : (c : Card) (bytes : List ℕ) (stop : ℕ) (rest : Choice) (h : Option Tlv) → case_choice c bytes stop rest h ≡ or_rest rest (tried c bytes stop h)
unfolding case_choice tried or_rest
choice_tried c bytes stop rest (Some h) =
    both (is_undefined (complaint c [] (case_value c.run.page h.tag h.start h.stop))) (λ t. simp t)
    (λ t. both (same (joined c (case_value c.run.page h.tag h.start h.stop)) bytes) (λ t2. simp (t, t2)) (λ t2. simp (t, t2)))
choice_tried c bytes stop rest None = refl

module _ (page env temp perm bytes : List ℕ) (from at end : ℕ) (inv : choose (view page env temp perm) bytes (tlvs 0 page at end) ≡ choose (view page env temp perm) bytes (tlvs 0 page from end)) where
  abbrev whole : Choice
  whole = choose (view page env temp perm) bytes (tlvs 0 page from end)

  pub choose_done : end ≤ at → Stay ≡ whole
  unfolding choose
  choose_done h = sym (simp (row_done page at end h)) ∙ inv

  module _ (h : at < end) (p : Option Tlv) (is : p ≡ head_at page at end) where
    pub choose_past : p ≡ None → Stay ≡ whole
    unfolding choose
    choose_past x = sym (simp (row_past page at end h (was is x))) ∙ inv

    module _ (v : Tlv) (x : p ≡ Some v) where
      pub choose_last : v.tag ≡ 0x12 → (k : Option Tlv) → k ≡ head_at page v.start v.stop → (d : Choice) → d ≡ follow k → d ≡ whole
      unfolding choose view seen
      choose_last y k f d e = e ∙ (sym (simp (row_tlv page at end h (was is x), eq-eqb _ _ y, ← f)) ∙ inv)

      module _ (y : v.tag ≡ 0x12 → ⊥) (t : Option Choice) (e : t ≡ tried (view page env temp perm) bytes v.stop (head_at page v.start v.stop)) where
        opens : or_rest (choose (view page env temp perm) bytes (tlvs 0 page v.stop end)) t ≡ whole
        unfolding choose view seen
        opens = rw e (sym (choice_tried (view page env temp perm) bytes v.stop _ (head_at page v.start v.stop)) ∙ (simp (row_tlv page at end h (was is x), ne_eqb _ _ y) at inv))

        pub choose_passed : t ≡ None → choose (view page env temp perm) bytes (tlvs 0 page v.stop end) ≡ whole
        unfolding or_rest
        choose_passed z = rw z at opens

        pub choose_settled : (d : Choice) → t ≡ Some d → d ≡ whole
        unfolding or_rest
        choose_settled d z = rw z at opens

pub ruleset choose_laws = (choose_done, choose_past, choose_last, choose_passed, choose_settled)

module _ (c : Choice) where
  pub branch_towards : (start stop : ℕ) → c ≡ Follow start stop → towards start stop ≡ branch_for c
  unfolding branch_for
  branch_towards start stop e = simp e

  pub branch_onwards : c ≡ Stay → (Ok None) ≡ branch_for c
  unfolding branch_for
  branch_onwards e = simp e

  pub branch_unknown : c ≡ Unknown → Err Variable ≡ branch_for c
  unfolding branch_for
  branch_unknown e = simp e

pub ruleset branch_laws = (branch_towards, branch_onwards, branch_unknown)

-- a variable that is undefined is refused after what is worse
undefined_last : (u cs : Complaint) (b : Result (Option Span) Refusal) → refused_by (worse u cs) (Err Variable) ≡ refused_by (worse (worse u Undefined) cs) b
unfolding refused_by worse rank
undefined_last Nothing Nothing b = refl
undefined_last Nothing Undefined b = refl
undefined_last Nothing Secured b = refl
undefined_last Nothing Misused b = refl
undefined_last Undefined Nothing b = refl
undefined_last Undefined Undefined b = refl
undefined_last Undefined Secured b = refl
undefined_last Undefined Misused b = refl
undefined_last Secured Nothing b = refl
undefined_last Secured Undefined b = refl
undefined_last Secured Secured b = refl
undefined_last Secured Misused b = refl
undefined_last Misused Nothing b = refl
undefined_last Misused Undefined b = refl
undefined_last Misused Secured b = refl
undefined_last Misused Misused b = refl

by_slot : (c : Card) (row : Tlvs) (u cs : Complaint) (x : Slot) → refused_by (worse u cs) (branch_slot c row x) ≡ refused_by (worse (worse u (undefined_in x)) cs) (branch_for (choose c (value_bytes x) row))
unfolding branch_slot undefined_in value_bytes
by_slot c row u cs free = undefined_last u cs _
by_slot c row u cs (held type bytes) = rw (nothing_worse u)

-- a complaint that comes to a refusal, and one that comes to none
unrefused : (w : Complaint) (b : Result (Option Span) Refusal) → refusal_of w ≡ None → refused_by w b ≡ b
unfolding refused_by refusal_of
unrefused Nothing b e = refl
unrefused Undefined b e = let z : ◌≡◌ {A = Option Refusal} (Some Variable) None = e in cc
unrefused Secured b e = let z : ◌≡◌ {A = Option Refusal} (Some Security) None = e in cc
unrefused Misused b e = let z : ◌≡◌ {A = Option Refusal} (Some Syntax) None = e in cc

refused : (w : Complaint) (r : Refusal) (b : Result (Option Span) Refusal) → refusal_of w ≡ Some r → refused_by w b ≡ Err r
unfolding refused_by refusal_of
refused Nothing r b e = let z : ◌≡◌ {A = Option Refusal} None (Some r) = e in cc
refused Undefined r b e = let z : ◌≡◌ {A = Option Refusal} (Some Variable) (Some r) = e in cc
refused Secured r b e = let z : ◌≡◌ {A = Option Refusal} (Some Security) (Some r) = e in cc
refused Misused r b e = let z : ◌≡◌ {A = Option Refusal} (Some Syntax) (Some r) = e in cc

module _ (page env temp perm : List ℕ) (start stop n : ℕ) (f : n ≡ get_or page start 0) where
  abbrev d : Card
  d = view page env temp perm

  by_reading : branch_choice d start stop ≡ refused_by (worse (reading d n) (cases_complaint page (tlvs 0 page (start + 1) stop))) (branch_for (choose d (value_bytes (read d n)) (tlvs 0 page (start + 1) stop)))
  unfolding branch_choice reading view seen
  by_reading = rw f (by_slot d (tlvs 0 page (start + 1) stop) (unserved (service page) (area (get_or page start 0))) (cases_complaint page (tlvs 0 page (start + 1) stop)) (read d (get_or page start 0)))

  module _ (a cs w : Complaint) (e : a ≡ reading d n) (g : cs ≡ cases_complaint page (tlvs 0 page (start + 1) stop)) (is : w ≡ worse a cs) where
    told : branch_choice d start stop ≡ refused_by w (branch_for (choose d (value_bytes (read d n)) (tlvs 0 page (start + 1) stop)))
    told = rw (is, e, g) by_reading

    module _ (o : Option Refusal) (by : o ≡ refusal_of w) where
      pub branch_free : o ≡ None → (v : List ℕ) → v ≡ value_bytes (read d n) → (k : Choice) → k ≡ choose d v (tlvs 0 page (start + 1) stop) → (b : Result (Option Span) Refusal) → b ≡ branch_for k → b ≡ branch_choice d start stop
      branch_free x v i k j b l = l ∙ rw (j, i) (sym (told ∙ unrefused w _ (sym by ∙ x)))

      pub branch_refused : (r : Refusal) → o ≡ Some r → Err r ≡ branch_choice d start stop
      branch_refused r x = sym (told ∙ refused w r _ (sym by ∙ x))

pub ruleset choice_laws = (branch_free, branch_refused)
