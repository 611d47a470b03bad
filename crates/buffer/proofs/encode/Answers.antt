-- `buffer::encode` meets its contract.
use borrow.Author.Rules.{rules}
use native.Mathlib.Omega.{arith}
use Rattle.buffer.proofs.EncodeLaws.{length_pair, laid_none, laid_more, encoded_is}
use Rattle.buffer.proofs.encode.Goals as goal

pub returns : goal.returns
returns c = let laid = laid_none _ c.requires in
    let laid = laid_more 4096 laid _ c.pour.ensures (search rules) (omega arith) in
    let laid = laid_more 2 laid _ c.put_pair.ensures (length_pair _) (omega arith) in
    let laid = laid_more 16640 laid _ c.pour-2.ensures (search rules) (omega arith) in
    let laid = laid_more 16640 laid _ c.pour-3.ensures (search rules) (omega arith) in
    let laid = laid_more 17920 laid _ c.pour-4.ensures (search rules) (omega arith) in
    let laid = laid_more 1058 laid _ c.pour-5.ensures (search rules) (omega arith) in
    let laid = laid_more 18 laid _ c.pour-6.ensures (search rules) (omega arith) in
    let laid = laid_more 257 laid _ c.pour-7.ensures (search rules) (omega arith) in
    let laid = laid_more 66 laid _ c.pour-8.ensures (search rules) (omega arith) in
    let laid = laid_more 2 laid _ c.put_pair-2.ensures (length_pair _) (omega arith) in
    let laid = laid_more 2 laid _ c.put_pair-3.ensures (length_pair _) (omega arith) in
    encoded_is c.args.state _ laid
