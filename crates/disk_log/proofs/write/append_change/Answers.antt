-- `append_change` meets its contract. Assumes nothing.
use mathlib.Core.Path.{◌≡◌, sym, ap, ◌∙◌}
use Prim.Native.Nat.{◌+◌}
use native.Mathlib.Omega.{arith}
use lib.ListN.{length, take, replicate}
use Rattle.model.specs.Record.{encode}
use Rattle.disk_log.specs.Write.{change_of}
use Rattle.disk_log.proofs.Words.{change_size, change_length, change_put}
use Rattle.disk_log.proofs.write.append_change.Goals as goal

pub slice_bounds-words-end : goal.slice_bounds-words-end
slice_bounds-words-end c =
    omega (arith, change_size c.requires.1 c.words_of-size.ensures, c.requires.1.width_small)

-- the record has three words more than its difference, and the words lent to `append` are the record's
pub slice_bounds-append-end : goal.slice_bounds-append-end
slice_bounds-append-end c =
    let size : c.words_of-size.result ≡ 3 + length c.args.difference.now = change_size c.requires.1 c.words_of-size.ensures in
    let built : take c.words_of-size.result c.encode_change.new.words ≡ encode (change_of c.args.head c.args.difference.now) =
    rw size
    (change_put (replicate 35 0) _ c.args.difference.now c.args.head (omega (arith, c.requires.1.width_small)) c.put_record.ensures c.encode_change.ensures.words_after_2) in
    let long : length (take c.words_of-size.result c.encode_change.new.words) ≡ 3 + length c.args.difference.now = ap length built ∙ change_length _ _ _ _ _ _ in
    size ∙ sym long

pub append-requires : goal.append-requires
append-requires c =
    let size : c.words_of-size.result ≡ 3 + length c.args.difference.now = change_size c.requires.1 c.words_of-size.ensures in
    let built : take c.words_of-size.result c.encode_change.new.words ≡ encode (change_of c.args.head c.args.difference.now) =
    rw size
    (change_put (replicate 35 0) _ c.args.difference.now c.args.head (omega (arith, c.requires.1.width_small)) c.put_record.ensures c.encode_change.ensures.words_after_2) in
    let long : length (take c.words_of-size.result c.encode_change.new.words) ≡ 3 + length c.args.difference.now = ap length built ∙ change_length _ _ _ _ _ _ in
    (c.requires.0, omega (arith, long, c.requires.1.width_small))

pub returns : goal.returns
returns c =
    let size : c.words_of-size.result ≡ 3 + length c.args.difference.now = change_size c.requires.1 c.words_of-size.ensures in
    let built : take c.words_of-size.result c.encode_change.new.words ≡ encode (change_of c.args.head c.args.difference.now) =
    rw size
    (change_put (replicate 35 0) _ c.args.difference.now c.args.head (omega (arith, c.requires.1.width_small)) c.put_record.ensures c.encode_change.ensures.words_after_2) in
    let long : length (take c.words_of-size.result c.encode_change.new.words) ≡ 3 + length c.args.difference.now = ap length built ∙ change_length _ _ _ _ _ _ in
    let f = c.append in
    record {
      appends = λ s l w lent. rw (← built) (f.ensures.appends s l w lent);
      ends = rw (← long) f.ensures.ends;
    }
