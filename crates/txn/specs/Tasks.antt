-- The parts of a commit, as its functions have them.
use Rattle.std.specs.Prelude.{List, ◌∷◌, ◌++◌, ℕ}
use Rattle.model.specs.declared.Sizes.{Sizes}
use Rattle.model.specs.declared.Logs.{Logs}
use Rattle.model.specs.Record.{encode, close, commit_kind}
use Rattle.model.specs.Fields.{Put, put, fills, leaving}
use Rattle.model.specs.World.{World, Action, perform}
use Rattle.model.specs.Append.{Appended, append, flush}

-- "closing record, flush": a commit's actions, of any sizes and logs
unfoldable pub closing : Sizes → Logs → World → ℕ → ℕ → List Action
closing s l w disk number =
    let added : Appended = append s l w.work disk (encode (close commit_kind number)) in
    added.actions ++ flush s added.logs (perform added.actions w).work disk

-- the words that a commit puts into the head: nothing is buffered on its disk, its place is free, and `sum` words stay reserved there
abbrev pub closed : (place disk sum : ℕ) → List Put
closed place disk sum = put fills disk 0 ∷ leaving place disk sum
