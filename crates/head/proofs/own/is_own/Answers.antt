-- `head::own::is_own` meets its contract: by cases on the tests. Assumes nothing.
use mathlib.Core.Path.{sym, ap, ◌∙◌}
use Prim.Native.Nat.{◌-◌, ◌/◌}
use native.Mathlib.Omega.{arith}
use lib.ListN.{length}
use Rattle.model.specs.Causes.{when_shut}
use Rattle.head.proofs.ByLength.{eqb_same, own_length, shut_owns_none, other_length, by_length}
use Rattle.head.proofs.own.is_own.Goals as goal

pub returns-then-is_shut : goal.returns-then-is_shut
returns-then-is_shut c h work stage disks total long = shut_owns_none h work (ap when_shut stage ∙ sym c.is_shut.ensures ∙ c.if-is_shut.true)

pub returns-then-words : goal.returns-then-words
returns-then-words c h work stage disks total long = other_length h work (λ e. omega arith)

pub returns-then-rest-total : goal.returns-then-rest-total
returns-then-rest-total c h work stage disks total long = other_length h work (λ e. omega arith)

pub returns-then-buffers-ne0 : goal.returns-then-buffers-ne0
returns-then-buffers-ne0 c h work stage disks total long = other_length h work (λ e. omega arith)

pub returns : goal.returns
returns c h work stage disks total long =
    let x = c.args in
    eqb_same ((x.words - 281 - 64 - x.total) / 64) x.disks (length work) (own_length h) (λ e. omega arith) (λ e. omega arith)
    ∙ by_length h work (ap when_shut stage ∙ sym c.is_shut.ensures ∙ c.if-is_shut.false)
