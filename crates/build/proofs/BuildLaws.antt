-- Bytes poured one after another are poured together; and what `header` pours.
-- Assumes nothing.
use Prim.Native.Nat.{ℕ, ◌+◌, ◌≤◌}
use mathlib.Core.List.{List, [], ◌∷◌, ◌++◌, append_assoc}
use mathlib.Core.Path.{◌≡◌, sym, ap, ◌∙◌}
use native.Mathlib.Omega.{arith}
use lib.ListN.{length, take, drop, length-append, take-append-drop}
use lib.Seq.{length-take-le, take_at, drop_at, drop-drop}
use Rattle.rules.specs.Value.{shortest}
use Rattle.pour.specs.Pour.{poured}
use Rattle.pour.proofs.PourLaws.{length_poured}
use Rattle.ber.specs.declared.Form.{Form}
use Rattle.ber.specs.Form.{form_of}
use Rattle.ber.proofs.FormLaws.{form_front, shortest_size}

pub poured_none : (a : List ℕ) (at : ℕ) → poured a at [] ≡ a
unfolding poured
poured_none a at = take-append-drop at a

pub poured_more : (a : List ℕ) (at : ℕ) (b d : List ℕ) → at ≤ length a → poured (poured a at b) (at + length b) d ≡ poured a at (b ++ d)
unfolding poured
poured_more a at b d h =
    let l : length (take at a ++ b) ≡ at + length b = length-append (take at a) b ∙ ap (λ (n : ℕ). n + length b) (length-take-le at a h) in
    let e : take at a ++ (b ++ drop (length b) (drop at a)) ≡ (take at a ++ b) ++ drop (length b) (drop at a) = sym (append_assoc (take at a) b (drop (length b) (drop at a))) in
    rw (e, take_at (take at a ++ b) (drop (length b) (drop at a)) (at + length b) l, drop_at (take at a ++ b) (drop (length b) (drop at a)) (at + length b) l, length-append b d, drop-drop (length d) (length b) (drop at a))
    (simp append_assoc)

-- One of the bytes that are to be poured, `v`, and those after it: there is room for `v`, and the rest is poured from where it ends.
module _ (out₀ out all rest v : List ℕ) (place n : ℕ) (inv : poured out n (v ++ rest) ≡ poured out₀ place all) (room : n + length (v ++ rest) ≤ length out) where
  long : length (v ++ rest) ≡ length v + length rest
  long = length-append v rest

  pub one_room : n + length v ≤ length out
  one_room = omega (arith, long)

  module _ (d : List ℕ) (e : d ≡ poured out n v) (m : ℕ) (f : m ≡ n + length v) where
    pub one_more_lem : poured d m rest ≡ poured out₀ place all
    one_more_lem = rw (e, f) (poured_more out n v rest (omega (arith, long)) ∙ inv)

    pub rest_room : m + length rest ≤ length d
    rest_room = let q = ap length e ∙ length_poured out n v one_room in omega (arith, long)

-- what the second call of `header` pours, and where
module _ (out d : List ℕ) (place tag n : ℕ) (fits : place + 1 + length (shortest n) ≤ length out) (e : d ≡ poured out place (tag ∷ [])) (m : ℕ) (g : m ≡ place + 1) (f : Form) (is : f ≡ form_of n) where
  pub header_room : m + length (take f.length f.bytes) ≤ length d
  header_room = let q = ap length e ∙ length_poured out place (tag ∷ []) (omega arith) in rw (form_front n f is) (omega arith)

  pub header_next : (r : ℕ) → r ≡ m + length (take f.length f.bytes) → r ≡ place + length (tag ∷ shortest n)
  header_next r h = let q : r ≡ m + length (shortest n) = rw (form_front n f is) at h in omega arith

  pub header_near : (r : ℕ) → r ≡ m + length (take f.length f.bytes) → r ≤ place + 5
  header_near r h = let q : r ≡ m + length (shortest n) = rw (form_front n f is) at h in let l = shortest_size n in omega arith

  pub header_is : (z : List ℕ) → z ≡ poured d m (take f.length f.bytes) → z ≡ poured out place (tag ∷ shortest n)
  header_is z h = h ∙ rw (form_front n f is, e, g) (poured_more out place (tag ∷ []) (shortest n) (omega arith))

pub ruleset header_laws = (header_room, header_next, header_near, header_is)
