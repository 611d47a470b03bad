-- On an accepted page every reference that a byte code or the handler follows has 2 to 65 bytes.
-- Assumes nothing.
use mathlib.Core.Path.{◌≡◌, refl}
use mathlib.Core.Bool.{true, false, cond, true≢false}
use mathlib.Core.List.{List, []}
use Prim.Native.Nat.{ℕ, zero, suc, ◌+◌, ◌-◌, ◌%◌, ◌≤◌, ◌<◌}
use native.Mathlib.Nat.{add-zero}
use native.Mathlib.Omega.{arith}
use lib.ListN.{length, get_or}
use lib.Dec.{ltb, leb, eqb}
use borrow.Author.Tests.{eqb-true, eqb-false, ltb-false, leb-true, le-leb}
use Rattle.rules.specs.Bytes.{same, part, among}
use Rattle.rules.specs.Tlv.{head_at}
use Rattle.rules.specs.Tlvs.{Tlvs, done, past, tlv, tlvs, plain}
use Rattle.rules.specs.Grammar.{grammar, cell_in, cell_of, gap_of, misplaced, command_kind, page_kind, unit_kind, modifier_kind, action_kind, branch_kind, case_kind, reference_kind}
use Rattle.rules.specs.Shape.{shapes, number_in, shape_of, fixed_of, follows_of, kind_of, kind_at, attributes_end}
use Rattle.rules.specs.Page.{spot_or, content_at, row_of, page_row, unit_row, unit_at}
use Rattle.rules.specs.Reference.{mark, mark_in}
use Rattle.rules.specs.Forms.{out_of_place, bad_reference, sizes, size_of, out_of_size, long_reference, too_big}
use Rattle.rules.specs.Handler.{go_to, branch_by, action_by, action_at, action_in, in_range, modifier_at, or_else, last_in, default, handle}
use Rattle.rules.specs.Loader.{judge}
use Rattle.rules.specs.Card.{Card}
use Rattle.rules.specs.Value.{complaint, joined}
use Rattle.rules.specs.Step.{case_value, follow, follow_in, is_undefined, case_choice, choose}
use Rattle.rules.specs.IsCard.{within}
use Rattle.rules.specs.declared.Action.{Action}
use Rattle.rules.specs.declared.Action.TheVariants.{Pass, Next, Quit, Back, Retry, Go}
use Rattle.rules.specs.declared.Choice.{Choice}
use Rattle.rules.specs.declared.Choice.TheVariants.{Follow, Stay, Unknown}
use Rattle.rules.proofs.Choices.{both, either}
use Rattle.rules.proofs.Offsets.{tests}
use Rattle.rules.proofs.BlankTests.{pass, other}
use Rattle.rules.proofs.IsolationRows.{length_part, Row, tlv_in, row_of_lem}
use Rattle.rules.proofs.StaysCardWalk.{Walked, Sound, Proper, walked_row, sound_tlv}
use Rattle.rules.proofs.StaysCardPage.{page_sound, UnitFine, page_fine}
use Rattle.rules.proofs.StaysCardTags.{every, tags_of, shaped_as, its_place, known_tag, inner_of, enter, shaped, first_proper}
use Rattle.std.specs.Prelude.{Option, Some, None, Ok}
use Rattle.rules.specs.declared.Tlv.{Tlv}
use Rattle.rules.specs.Built.{some_tlv}

pub mark_in_lem : (n m : ℕ) (r : List ℕ) → mark_in n r ≡ Some m → m < n
unfolding mark_in
mark_in_lem zero m r e = let z : ◌≡◌ {A = ℕ} 0 1 = cc in absurd (omega arith)
mark_in_lem (suc n) m r e =
    both (eqb (get_or r n 0) 0x23)
    (λ t. let k : Some n ≡ Some m = rw t at e in let q : n ≡ m = cc in omega arith)
    (λ t. let k = mark_in_lem n m r (rw t at e) in omega arith)

-- a reference that may be followed
abbrev pub Ref : List ℕ → ℕ → ℕ → Type 0
Ref s start stop = within 2 65 (length (part s start stop)) ≡ true

module _ (s : List ℕ) where
  ref_size : (start stop : ℕ) → stop ≤ length s → (p : Option ℕ) → mark (part s start stop) ≡ p → bad_reference (stop - start) p ≡ false → long_reference (stop - start) p ≡ false → Ref s start stop
  unfolding mark bad_reference long_reference within
  ref_size start stop l (Some n) e b g =
      let k = mark_in_lem (length (part s start stop)) n (part s start stop) e in
      let q = length_part s start stop l in
      let z = eqb-false (stop - start) 1 b in
      both (ltb 32 n) (λ t. absurd (true≢false (rw t at g)))
      (λ t. let y = ltb-false 32 (stop - start - (n + 1)) (rw t at g) in
      rw q (pass (le-leb 2 (stop - start) (omega tests)) (le-leb (stop - start) 65 (omega tests))))
  ref_size start stop l None e b g = absurd (true≢false b)

  ref_fine : (left within from last at start stop : ℕ) → Proper s left within from last 0x0C at start stop → stop ≤ length s → Ref s start stop
  unfolding out_of_place too_big size_of sizes number_in among out_of_size
  ref_fine left within from last at start stop h l =
      ref_size start stop l (mark (part s start stop)) refl
      (both (misplaced last (cell_of within 0x0C)) (λ t. absurd (true≢false (rw t at h.placed))) (λ t. rw t at h.placed))
      h.sized

  -- the first TLV of a container, where it is an anchor reference
  abbrev HeadRef : Option Tlv → Type 0
  HeadRef (Some h) = eqb h.tag 0x0C ≡ true → Ref s h.start h.stop
  HeadRef None = Unit {0}

  head_ref : (left within from end : ℕ) → end ≤ length s → Sound s left within from 0 (tlvs 0 s from end) → (h : Option Tlv) → head_at s from end ≡ h → HeadRef h
  head_ref left within from end l k (Some h) e =
      λ t.
      let i = first_proper s end left within from 0 from h.tag h.start h.stop (tlvs 0 s from end) (row_of_lem s end from) k e in
      let j = tlv_in s from end h.tag h.start h.stop e in
      ref_fine left within from 0 from h.start h.stop (rw (eqb-true h.tag 0x0C t) at i.0) (omega arith)
  head_ref left within from end l k None e = tt

  -- what a page reference holds
  reference_in : (left within from last at start stop : ℕ) → eqb within command_kind ≡ false → Proper s (suc left) within from last 0x12 at start stop →
      Sound s left reference_kind start 0 (tlvs 0 s start stop)
  unfolding content_at attributes_end spot_or shape_of shapes number_in among follows_of kind_of fixed_of kind_at gap_of
  reference_in left within from last at start stop c h =
      let w = inner_of s 0x12 start stop (λ kind p. eqb kind command_kind ≡ false → Walked s (suc left) kind at p stop) within c refl h.into in
      (walked_row s left reference_kind at start stop (rw (add-zero start) at (w refl))).0

  -- what the handler does
  abbrev pub GoRef : Action → Type 0
  GoRef Pass = Unit {0}
  GoRef Next = Unit {0}
  GoRef Quit = Unit {0}
  GoRef Back = Unit {0}
  GoRef Retry = Unit {0}
  GoRef (Go start stop) = Ref s start stop

  go_to_ref : (h : Option Tlv) → HeadRef h → GoRef (go_to h)
  unfolding go_to
  go_to_ref (Some h) k = both (eqb h.tag 0x0C) (λ t. rw t (k t)) (λ t. rw t tt)
  go_to_ref None k = tt

  branch_by_ref : (left within from end : ℕ) → eqb within command_kind ≡ false → end ≤ length s → Sound s (suc left) within from 0 (tlvs 0 s from end) →
      (h : Option Tlv) → head_at s from end ≡ h → GoRef (branch_by s h)
  unfolding branch_by
  branch_by_ref left within from end c l k (Some h) e =
      let i = first_proper s end (suc left) within from 0 from h.tag h.start h.stop (tlvs 0 s from end) (row_of_lem s end from) k e in
      let j = tlv_in s from end h.tag h.start h.stop e in
      both (eqb h.tag 0x12)
      (λ t. rw t (go_to_ref (head_at s h.start h.stop)
      (head_ref left reference_kind h.start h.stop (omega arith) (reference_in left within from 0 from h.start h.stop c (rw (eqb-true h.tag 0x12 t) at i.0)) (head_at s h.start h.stop) refl)))
      (λ t. rw t (go_to_ref (some_tlv h.tag h.start h.stop) (head_ref (suc left) within from end l k (some_tlv h.tag h.start h.stop) e)))
  branch_by_ref left within from end c l k None e = tt

  -- an action with an ID below '20' is a system action, which leads nowhere else
  action_kind_lem : (at stop : ℕ) → (eqb (kind_at s action_kind at stop) command_kind ≡ false) × (gap_of (kind_at s action_kind at stop) ≡ 0)
  unfolding kind_at gap_of
  action_kind_lem at stop =
      both (ltb at stop)
      (λ t. both (ltb (get_or s at 0) 0x20) (λ u. rw (t, u) (refl, refl)) (λ u. rw (t, u) (refl, refl)))
      (λ t. rw t (refl, refl))

  action_at_ref : (left within at stop : ℕ) → eqb within command_kind ≡ false → stop ≤ length s → Sound s (suc left) within (at + 1) 0 (tlvs 0 s (at + 1) stop) → GoRef (action_at s at stop)
  unfolding action_at action_by
  action_at_ref left within at stop c l k =
      either GoRef (ltb at stop) {b = Pass}
      (λ _. either GoRef (eqb (get_or s at 0) 0) {a = Next} (λ _. tt)
      (λ _. either GoRef (eqb (get_or s at 0) 1) {a = Quit} (λ _. tt)
      (λ _. either GoRef (eqb (get_or s at 0) 2) {a = Back} (λ _. tt)
      (λ _. either GoRef (eqb (get_or s at 0) 3) {a = Retry} (λ _. tt)
      (λ _. either GoRef (ltb (get_or s at 0) 0x20) {a = Pass} (λ _. tt)
      (λ _. branch_by_ref left within (at + 1) stop c l k (head_at s (at + 1) stop) refl))))))
      (λ _. tt)

  action_in_ref : (left from last end at : ℕ) (r : Tlvs) → end ≤ length s → Row s end at r → Sound s (suc (suc left)) modifier_kind from last r → GoRef (action_in s r)
  unfolding action_in every tags_of grammar shaped_as plain shape_of shapes number_in follows_of kind_of fixed_of among
  action_in_ref left from last end at (done p) l w k = tt
  action_in_ref left from last end at (past p) l w k = tt
  action_in_ref left from last end at (tlv tag p start stop rest) l w k =
      let i = sound_tlv s (suc (suc left)) modifier_kind from last tag p start stop rest k in
      let j = tlv_in s at end tag start stop w.1 in
      let a = action_kind_lem (content_at s tag start stop) stop in
      either GoRef (eqb (plain tag) 0x09)
      (λ t.
      let e = shaped s (suc (suc left)) modifier_kind from last tag p start stop i.0 refl 0x09 action_kind 1 refl t a.0 in
      let r = (walked_row s (suc left) (kind_at s action_kind (content_at s tag start stop) stop) p (content_at s tag start stop + 1) stop e).0 in
      action_at_ref left (kind_at s action_kind (content_at s tag start stop) stop) (content_at s tag start stop) stop a.0 (omega arith) (rw a.1 at r))
      (λ t. action_in_ref left from (cell_of modifier_kind tag) end stop rest l w.2 i.1)

  or_else_ref : (a b : Action) → GoRef a → GoRef b → GoRef (or_else a b)
  unfolding or_else
  or_else_ref Pass b h k = k
  or_else_ref Next b h k = tt
  or_else_ref Quit b h k = tt
  or_else_ref Back b h k = tt
  or_else_ref Retry b h k = tt
  or_else_ref (Go start stop) b h k = h

  pub last_in_ref : (g left within from last end at : ℕ) (r : Tlvs) → eqb within command_kind ≡ false → every (shaped_as 0x08 modifier_kind 2) (tags_of (get_or grammar within [])) ≡ true → end ≤ length s →
      Row s end at r → Sound s (suc (suc (suc left))) within from last r → GoRef (last_in s g r)
  unfolding last_in modifier_at gap_of
  last_in_ref g left within from last end at (done p) c f l w k = tt
  last_in_ref g left within from last end at (past p) c f l w k = tt
  last_in_ref g left within from last end at (tlv tag p start stop rest) c f l w k =
      let i = sound_tlv s (suc (suc (suc left))) within from last tag p start stop rest k in
      let j = tlv_in s at end tag start stop w.1 in
      let from' = content_at s tag start stop + 2 in
      or_else_ref (last_in s g rest) _ (last_in_ref g left within from (cell_of within tag) end stop rest c f l w.2 i.1)
      (either GoRef (eqb (plain tag) 0x08) {b = Pass}
      (λ t.
      let e = enter s (suc (suc (suc left))) within from last tag p start stop i.0 c 0x08 modifier_kind 2 f t refl refl in
      let r = (walked_row s (suc (suc left)) modifier_kind p from' stop e).0 in
      either GoRef (in_range (get_or s (content_at s tag start stop) 0) (get_or s (content_at s tag start stop + 1) 0) g) {b = Pass}
      (λ _. action_in_ref left from' 0 stop from' (tlvs 0 s from' stop) (omega arith) (row_of_lem s stop from') r) (λ _. tt))
      (λ _. tt))

  default_ref : (g : ℕ) → GoRef (default g)
  unfolding default
  default_ref g = either GoRef (ltb g 0x10) {a = Next} (λ _. tt) (λ _. either GoRef (eqb g 0x11) {a = Back} (λ _. tt) (λ _. either GoRef (eqb g 0x13) {a = Retry} {b = Quit} (λ _. tt) (λ _. tt)))

  unit_ref : (g : ℕ) (h : Option Tlv) → UnitFine s h → GoRef (last_in s g (row_of s h))
  unfolding row_of last_in every tags_of grammar shaped_as plain shape_of shapes number_in follows_of kind_of fixed_of among
  unit_ref g (Some h) u =
      last_in_ref g 2 unit_kind (content_at s h.tag h.start h.stop) 0 h.stop (content_at s h.tag h.start h.stop) (tlvs 0 s (content_at s h.tag h.start h.stop) h.stop) refl refl
      u.fits (row_of_lem s h.stop (content_at s h.tag h.start h.stop)) u.sound
  unit_ref g None u = tt

  pub handle_ref : judge s ≡ Ok tt → (k g : ℕ) → GoRef (handle s k g)
  unfolding handle unit_row every tags_of grammar shaped_as plain shape_of shapes number_in follows_of kind_of fixed_of among
  handle_ref e k g =
      let w = page_sound s e in
      or_else_ref (last_in s g (unit_row s k)) _ (unit_ref g (unit_at s k) ((page_fine s e).unit k))
      (or_else_ref (last_in s g (page_row s)) (default g)
      (last_in_ref g 3 page_kind w.from 0 (length s) w.from (page_row s) refl refl (omega arith) w.row w.sound) (default_ref g))

  -- what a branch on a value chooses
  abbrev pub ChoiceRef : Choice → Type 0
  ChoiceRef (Follow start stop) = Ref s start stop
  ChoiceRef Stay = Unit {0}
  ChoiceRef Unknown = Unit {0}

  follow_ref : (left start stop : ℕ) → stop ≤ length s → Sound s left reference_kind start 0 (tlvs 0 s start stop) → (h : Option Tlv) → head_at s start stop ≡ h → ChoiceRef (follow h)
  unfolding follow every tags_of grammar
  follow_ref left start stop l k (Some h) e =
      let i = first_proper s stop left reference_kind start 0 start h.tag h.start h.stop (tlvs 0 s start stop) (row_of_lem s stop start) k e in
      let j = tlv_in s start stop h.tag h.start h.stop e in
      let t = known_tag s left reference_kind start 0 h.tag start h.start h.stop i.0 (λ t. eqb t 0x0C) refl in
      ref_fine left reference_kind start 0 start h.start h.stop (rw (eqb-true h.tag 0x0C t) at i.0) (omega arith)
  follow_ref left start stop l k None e = tt

  -- the TLV behind a case's value is its page reference
  behind_value : (left from least to stop : ℕ) (rest : Tlvs) → 17 ≤ least → stop ≤ length s → Row s stop to rest → Sound s (suc left) case_kind from least rest →
      (h : Option Tlv) → head_at s to stop ≡ h → ChoiceRef (follow_in s h)
  unfolding follow_in every tags_of grammar cell_of cell_in among
  behind_value left from least to stop rest f l w k (Some h) e =
      let i = first_proper s stop (suc left) case_kind from least to h.tag h.start h.stop rest w k e in
      let j = tlv_in s to stop h.tag h.start h.stop e in
      let o = its_place s (suc left) case_kind from least h.tag to h.start h.stop i.0 in
      let t = known_tag s (suc left) case_kind from least h.tag to h.start h.stop i.0 (λ t. cond (eqb t 0x12) true (eqb (cell_of case_kind t) 17)) refl in
      both (eqb h.tag 0x12)
      (λ u. follow_ref left h.start h.stop (omega arith) (reference_in left case_kind from least to h.start h.stop refl (rw (eqb-true h.tag 0x12 u) at i.0)) (head_at s h.start h.stop) refl)
      (λ u.
      let c : cell_of case_kind h.tag ≡ 17 = eqb-true (cell_of case_kind h.tag) 17 (other (eqb h.tag 0x12) (eqb (cell_of case_kind h.tag) 17) t u) in
      let x = o.ordered in
      let y : cell_of case_kind h.tag ≡ least = omega arith in
      let z : 3 ≤ 17 % 16 = rw c at (o.again y) in
      absurd (omega arith))
  behind_value left from least to stop rest f l w k None e = tt

module _ (c : Card) where
  abbrev s : List ℕ
  s = c.run.page

  case_choice_ref : (bytes : List ℕ) (left start stop : ℕ) (rest : Choice) → stop ≤ length s → Sound s (suc left) case_kind start 0 (tlvs 0 s start stop) → ChoiceRef s rest →
      (h : Option Tlv) → head_at s start stop ≡ h → ChoiceRef s (case_choice c bytes stop rest h)
  unfolding case_choice every tags_of grammar cell_of cell_in among
  case_choice_ref bytes left start stop rest l k r (Some h) e =
      let i = first_proper s stop (suc left) case_kind start 0 start h.tag h.start h.stop (tlvs 0 s start stop) (row_of_lem s stop start) k e in
      let f = known_tag s (suc left) case_kind start 0 h.tag start h.start h.stop i.0 (λ t. leb 17 (cell_of case_kind t)) refl in
      let v = behind_value s left start (cell_of case_kind h.tag) h.stop stop i.1.0 (leb-true 17 (cell_of case_kind h.tag) f) l i.1.1 i.1.2 (head_at s h.stop stop) refl in
      either (ChoiceRef s) (is_undefined (complaint c [] (case_value s h.tag h.start h.stop))) {a = Unknown} (λ _. tt)
      (λ _. either (ChoiceRef s) (same (joined c (case_value s h.tag h.start h.stop)) bytes) (λ _. v) (λ _. r))
  case_choice_ref bytes left start stop rest l k r None e = r

  pub choose_ref : (bytes : List ℕ) (left from last end at : ℕ) (r : Tlvs) → end ≤ length s → Row s end at r → Sound s (suc (suc left)) branch_kind from last r → ChoiceRef s (choose c bytes r)
  unfolding choose every tags_of grammar content_at attributes_end spot_or shape_of shapes number_in among follows_of kind_of fixed_of kind_at gap_of
  choose_ref bytes left from last end at (done p) l w k = tt
  choose_ref bytes left from last end at (past p) l w k = tt
  choose_ref bytes left from last end at (tlv tag p start stop rest) l w k =
      let i = sound_tlv s (suc (suc left)) branch_kind from last tag p start stop rest k in
      let j = tlv_in s at end tag start stop w.1 in
      either (ChoiceRef s) (eqb tag 0x12)
      (λ t. follow_ref s (suc left) start stop (omega arith) (reference_in s (suc left) branch_kind from last p start stop refl (rw (eqb-true tag 0x12 t) at i.0)) (head_at s start stop) refl)
      (λ t.
      let f = known_tag s (suc (suc left)) branch_kind from last tag p start stop i.0 (λ t. cond (eqb t 0x12) true (eqb t 0x11)) refl in
      let h : Proper s (suc (suc left)) branch_kind from last 0x11 p start stop = rw (eqb-true tag 0x11 (other (eqb tag 0x12) (eqb tag 0x11) f t)) at i.0 in
      let v = inner_of s 0x11 start stop (λ kind p'. eqb kind command_kind ≡ false → Walked s (suc (suc left)) kind p p' stop) branch_kind refl refl h.into in
      let y = (walked_row s (suc left) case_kind p start stop (rw (add-zero start) at (v refl))).0 in
      case_choice_ref bytes left start stop (choose c bytes rest) (omega arith) y (choose_ref bytes left from (cell_of branch_kind tag) end stop rest l w.2 i.1) (head_at s start stop) refl)

  -- the cases of a Branch On Variable Value that stands at a place of a unit
  pub branch_ref : (bytes : List ℕ) (from last at start stop : ℕ) → stop ≤ length s → Proper s 5 unit_kind from last 0x44 at start stop → ChoiceRef s (choose c bytes (tlvs 0 s (start + 1) stop))
  unfolding content_at attributes_end spot_or shape_of shapes number_in among follows_of kind_of fixed_of kind_at gap_of
  branch_ref bytes from last at start stop l h =
      let v = inner_of s 0x44 start stop (λ kind p. eqb kind command_kind ≡ false → Walked s 5 kind at p stop) unit_kind refl refl h.into in
      choose_ref bytes 2 (start + 1) 0 stop (start + 1) (tlvs 0 s (start + 1) stop) l (row_of_lem s stop (start + 1)) (walked_row s 4 branch_kind at (start + 1) stop (v refl)).0
