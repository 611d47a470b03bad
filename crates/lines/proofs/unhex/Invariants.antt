-- What is left to write gives what the whole gives.
use Rattle.std.proofs.Common.{◌≡◌, ◌-◌, ◌*◌, ◌/◌, length, drop}
use Rattle.lines.specs.Hex.{unhexed_from, unhexed}
use Rattle.lines.proofs.unhex.Given as goal

abbrev pub invariant-loop-i : goal.invariant-loop-i
invariant-loop-i l =
    (l.i-iterator.iter.size ≡ 2)
    × (l.i-iterator.iter.rest.now ≡ drop (2 * l.i-iterator.count) l.word)
    × (length l.out ≡ length l.initial.out)
    × (unhexed_from (length l.word / 2 - l.i-iterator.count) l.i-iterator.count l.word l.out ≡ unhexed l.word l.initial.out)
