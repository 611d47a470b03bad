-- Anchor references (clauses 7.3 and 7.2.2): split at the last '23', and resolved on a page.
use Rattle.std.specs.Prelude.{ℕ, zero, suc, ◌+◌, Bool, true, cond, List, ◌∷◌, ◌++◌, length, get_or, take, drop, eqb, Option, Some, None}
use Rattle.rules.specs.Bytes.{same}
use Rattle.rules.specs.Tlvs.{Tlvs, done, past, tlv, plain}
use Rattle.rules.specs.Page.{page_row, identification, anchor_in, holds}
use Rattle.rules.specs.declared.Target.{Target}
use Rattle.rules.specs.declared.Target.TheVariants.{Unit, Lacking, Other}
use Rattle.rules.specs.Built.{some_tlv}

-- the place of the last '23' among the first n bytes
unfoldable pub mark_in : ℕ → List ℕ → Option ℕ
mark_in zero r = None
mark_in (suc n) r = cond (eqb (get_or r n 0) 0x23) (Some n) (mark_in n r)

unfoldable pub mark : List ℕ → Option ℕ
mark r = mark_in (length r) r

-- the index of the unit that holds a name, counted from k
unfoldable pub unit_from : List ℕ → List ℕ → ℕ → Tlvs → Target
unit_from s name k (done p) = Lacking
unit_from s name k (past p) = Lacking
unit_from s name k (tlv tag at start stop rest) =
    cond (eqb (plain tag) 0x0A) (cond (holds s name (anchor_in s (some_tlv tag start stop))) (Unit k) (unit_from s name (k + 1) rest)) (unit_from s name k rest)

-- an anchor of the page itself; no anchor means its first unit
unfoldable pub own_unit : List ℕ → List ℕ → Target
own_unit s name = cond (eqb (length name) 0) (Unit 0) (unit_from s name 0 (page_row s))

-- an empty page part, or the page's identification, means this page
unfoldable pub is_own : List ℕ → List ℕ → Bool
is_own s name = cond (eqb (length name) 0) true (same (identification s) name)

unfoldable pub target_by : List ℕ → List ℕ → Option ℕ → Target
target_by s r (Some n) = cond (is_own s (take n r)) (own_unit s (drop (n + 1) r)) Other
target_by s r None = Other

-- what a reference means on a page
unfoldable pub target : List ℕ → List ℕ → Target
target s r = target_by s r (mark r)

-- 4.6: the reference of a unit
unfoldable pub reference : List ℕ → List ℕ → List ℕ
reference page anchor = page ++ 0x23 ∷ anchor
