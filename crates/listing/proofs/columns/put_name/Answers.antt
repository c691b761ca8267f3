-- `listing::columns::put_name` meets its contract: each arm is a name.
use native.Mathlib.Omega.{arith}
use borrow.Author.Tests.{ne_eqb}
use Rattle.model.specs.Listing.{kind_name}
use Rattle.listing.proofs.columns.put_name.Goals as goal

pub returns-in-0 : goal.returns-in-0
unfolding kind_name
returns-in-0 c =
    let put = c.put_text.ensures in
    rw c.in-0.is (record { end_bound = (omega arith, put.text_value); out_after = put.out_after })

pub returns-in-1 : goal.returns-in-1
unfolding kind_name
returns-in-1 c =
    let put = c.put_text-in-1.ensures in
    rw c.in-1.is (record { end_bound = (omega arith, put.text_value); out_after = put.out_after })

pub returns-in-2 : goal.returns-in-2
unfolding kind_name
returns-in-2 c =
    let put = c.put_text-in-2.ensures in
    rw c.in-2.is (record { end_bound = (omega arith, put.text_value); out_after = put.out_after })

pub returns-in_default : goal.returns-in_default
unfolding kind_name
returns-in_default c =
    let put = c.put_text-in_default.ensures in
    let none = c.in_default.in_default-own.rest in
    rw (ne_eqb _ 0 none.0.0.1, ne_eqb _ 1 none.0.1, ne_eqb _ 2 none.1) (record { end_bound = (omega arith, put.text_value); out_after = put.out_after })
