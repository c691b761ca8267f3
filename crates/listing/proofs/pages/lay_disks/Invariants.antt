-- `listing::pages::lay_disks` meets its contract. The loop keeps: what comes of the disks from d on is what comes of all of them.
use Prim.Native.Nat.{ℕ, ◌+◌, ◌*◌, ◌≤◌}
use mathlib.Core.Path.{◌≡◌}
use mathlib.Core.List.{List, ◌++◌}
use lib.ListN.{get_or}
use Rattle.model.specs.declared.Sizes.{Sizes}
use Rattle.model.specs.Below.{join_below}
use Rattle.model.specs.Causes.{retained_from}
use Rattle.model.specs.Listing.{Listed, listed_in}
use Rattle.listing.specs.Sheets.{finished}
use Rattle.listing.proofs.pages.lay_disks.Given as goal

-- the records of a disk
abbrev pub on : Sizes → (starts logs : List ℕ) → ℕ → List Listed
on sizes starts logs d = listed_in d (retained_from sizes (λ e. get_or starts e 0) logs d)

abbrev pub invariant-loop-d : goal.invariant-loop-d
invariant-loop-d l = (l.sheet.line ≤ 65536 * l.d + 1)
    × ((more : List Listed) → finished l.first l.sheet more l.out
    ≡ finished l.first (record { line = 0; left = 0 }) (join_below (on l.sizes l.starts l.logs) l.d ++ more) l.initial.out)
