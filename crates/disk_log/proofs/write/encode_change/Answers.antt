-- `encode_change` meets its contract. Assumes nothing.
use mathlib.Core.Path.{refl}
use native.Mathlib.Omega.{arith}
use lib.ListN.{length-set}
use Rattle.model.specs.Record.{header}
use Rattle.disk_log.proofs.Words.{change_words}
use Rattle.disk_log.proofs.write.encode_change.Goals as goal

pub bounds-words-1 : goal.bounds-words-1
bounds-words-1 c = simp length-set (omega arith)

pub bounds-words-2 : goal.bounds-words-2
bounds-words-2 c = simp length-set (omega arith)

pub returns : goal.returns
unfolding header
returns c =
    let a = c.args in
    let h = a.head in
    record {
      words_after = refl;
      words_after_2 = change_words a.words.now h.kind h.page h.slot h.number h.copy a.width c.requires.1;
    }
