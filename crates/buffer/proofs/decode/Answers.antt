-- `buffer::decode` meets its contract.
use Rattle.buffer.proofs.DecodeLaws.{decoded_is}
use Rattle.buffer.proofs.decode.Goals as goal

pub returns : goal.returns
returns c = decoded_is _
    c.fetch.ensures
    c.pair_at-len.ensures
    c.fetch-2.ensures
    c.fetch-3.ensures
    c.fetch-4.ensures
    c.fetch-5.ensures
    c.fetch-6.ensures
    c.fetch-7.ensures
    c.fetch-8.ensures
    c.pair_at-unit.ensures
    c.pair_at-place.ensures
