-- A part of the work memory, lent as `&mut work[from..]`, and the memory when it is back; for what lies behind the head too.
use mathlib.Core.Path.{◌≡◌, ap, ◌∙◌}
use mathlib.Core.List.{List, ◌++◌, append-nil}
use Prim.Native.Nat.{ℕ, ◌-◌}
use native.Mathlib.Omega.{arith}
use lib.ListN.{length, take, drop, length-drop, drop_of_length-le}
use lib.Seq.{take_all}
use Rattle.model.specs.View.{head_words}

-- The part that is lent from `from` on, and the memory with other words in that part.
abbrev pub lent_from : ℕ → List ℕ → List ℕ
lent_from from work = take (length work - from) (drop from work)

abbrev pub back_from : ℕ → List ℕ → (body : List ℕ) → List ℕ
back_from from work body = take from work ++ (body ++ drop (length work - from) (drop from work))

pub lent_from_lem : (from : ℕ) (work : List ℕ) → lent_from from work ≡ drop from work
lent_from_lem from work = take_all (length work - from) (drop from work) (omega (arith, length-drop from work))

pub back_from_lem : (from : ℕ) (work body : List ℕ) → back_from from work body ≡ take from work ++ body
back_from_lem from work body =
    ap (λ (rest : List ℕ). take from work ++ (body ++ rest)) (drop_of_length-le (drop from work) {i = length work - from} (omega (arith, length-drop from work)))
    ∙ ap (λ (rest : List ℕ). take from work ++ rest) (append-nil body)

pub lent_behind : (work : List ℕ) → lent_from head_words work ≡ drop head_words work
lent_behind work = lent_from_lem head_words work

pub behind_back : (work body : List ℕ) → back_from head_words work body ≡ take head_words work ++ body
behind_back work body = back_from_lem head_words work body
