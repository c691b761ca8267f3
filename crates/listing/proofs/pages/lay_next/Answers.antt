-- `listing::pages::lay_next` meets its contract. Assumes nothing.
use borrow.Author.Rules.{rules}
use Rattle.listing.proofs.Sheets.{next_page, next_line}
use Rattle.listing.proofs.pages.lay_next.Goals as goal

pub returns-then-sheet-eq0 : goal.returns-then-sheet-eq0
returns-then-sheet-eq0 c =
    let a = c.args in
    record {
      out_after = λ more. next_page _ _ _ _ _ a.here more a.out.now c.if-sheet-eq0.true c.lay_heading.ensures c.lay_record.ensures;
      line_bound = search rules;
    }

pub returns : goal.returns
returns c =
    let a = c.args in
    record {
      out_after = λ more. next_line _ _ _ _ _ a.here more a.out.now c.if-sheet-eq0.false c.lay_record-2.ensures;
      line_bound = search rules;
    }
