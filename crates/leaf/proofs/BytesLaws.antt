-- Laws of `same` and `among`, by the place up to which bytes were compared.
-- Assumes nothing.
use Prim.Native.Nat.{ℕ, suc, ◌+◌, ◌≤◌, ◌<◌}
use mathlib.Core.Bool.{Bool, true, false}
use mathlib.Core.List.{List, [], ◌∷◌}
use mathlib.Core.Path.{◌≡◌, refl, ap, sym, ◌∙◌}
use native.Mathlib.Numerals.{add-one}
use lib.ListN.{length, get_or, drop, drop_of_length-le}
use lib.Seq.{drop-cons}
use borrow.Author.Tests.{eq-eqb, ne_eqb}
use lib.Dec.{eqb}
use Rattle.rules.specs.Bytes.{same, among}
use Rattle.leaf.proofs.Cases.{both}

pub same_length : (a b : List ℕ) → (length a ≡ length b → ⊥) → same a b ≡ false
unfolding same
same_length [] [] h = absurd (h refl)
same_length [] (y ∷ ys) h = refl
same_length (x ∷ xs) [] h = refl
same_length (x ∷ xs) (y ∷ ys) h = rw (same_length xs ys (λ e. h (ap suc e))) (both (eqb x y) (λ t. simp t) (λ t. simp t))

module _ (a b : List ℕ) (i : ℕ) where
  pub same_done : length a ≤ i → length b ≤ i → same (drop i a) (drop i b) ≡ true
  unfolding same
  same_done h k = simp (drop_of_length-le a h, drop_of_length-le b k)

  module _ (h : i < length a) (k : i < length b) where
    pub same_more : get_or a i 0 ≡ get_or b i 0 → same (drop i a) (drop i b) ≡ same (drop (i + 1) a) (drop (i + 1) b)
    unfolding same
    same_more e = simp (add-one i, drop-cons a i 0 h, drop-cons b i 0 k, eq-eqb _ _ e)

    pub same_less : (get_or a i 0 ≡ get_or b i 0 → ⊥) → same (drop i a) (drop i b) ≡ false
    unfolding same
    same_less e = simp (drop-cons a i 0 h, drop-cons b i 0 k, ne_eqb _ _ e)

-- `w` is what the whole list comes to
module _ (list : List ℕ) (n i : ℕ) (w : Bool) (inv : among (drop i list) n ≡ w) where
  pub among_done : length list ≤ i → false ≡ w
  unfolding among
  among_done h = sym (simp (drop_of_length-le list h)) ∙ inv

  module _ (h : i < length list) where
    pub among_this : n ≡ get_or list i 0 → true ≡ w
    unfolding among
    among_this e = sym (simp (drop-cons list i 0 h, eq-eqb _ _ e)) ∙ inv

    pub among_more : (n ≡ get_or list i 0 → ⊥) → among (drop (i + 1) list) n ≡ w
    unfolding among
    among_more e = sym (simp (add-one i, drop-cons list i 0 h, ne_eqb _ _ e)) ∙ inv

pub ruleset among_laws = (among_done, among_this, among_more)
