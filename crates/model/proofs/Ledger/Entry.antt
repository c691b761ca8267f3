-- Log records with their places, and what a list of them adds to one word of the page memory.
use mathlib.Core.List.{List, [], ◌∷◌}
use mathlib.Core.Bool.{Bool, true, false, not, ◌&&◌, ◌||◌, cond}
use Prim.Native.Nat.{ℕ, ◌+◌, ◌-◌}
use lib.Dec.{leb, ltb, eqb}
use lib.ListN.{length, get_or}
use Rattle.model.specs.Word.{◌⊕◌}
use Rattle.model.specs.Record.{Record, change, close}

-- A record with its disk and its position there; `at` is the first word of its slot in the page memory.
-- A closing record (kind 2 or 3) has page, slot, epoch and `at` 0 and no difference.
pub record Entry : Type 0 where
  pub disk : ℕ
  pub position : ℕ
  pub kind : ℕ
  pub page : ℕ
  pub slot : ℕ
  pub number : ℕ
  pub copy : ℕ
  pub at : ℕ
  pub diff : List ℕ

unfoldable pub is_close : Entry → Bool
is_close r = leb 2 r.kind

-- the record that is stored
unfoldable pub record_of : Entry → Record
record_of r =
    cond (is_close r) (close r.kind r.number) (change r.kind r.page r.slot r.number r.copy r.diff)

-- `x` where the test holds, else 0
abbrev pub mask : Bool → ℕ → ℕ
mask true x = x
mask false x = 0

-- the exclusive or of `f r` over the list
unfoldable pub sum : {A : Type 0} → (A → ℕ) → List A → ℕ
sum f [] = 0
sum f (r ∷ l) = f r ⊕ sum f l

unfoldable pub some : {A : Type 0} → (A → Bool) → List A → Bool
some p [] = false
some p (r ∷ l) = p r || some p l

-- every element has the property
abbrev pub All : {A : Type 0} → (A → Type 0) → List A → Type 0
All P [] = Unit {0}
All P (r ∷ l) = P r × All P l

-- the elements that pass the test
unfoldable pub pick : {A : Type 0} → (A → Bool) → List A → List A
pick p [] = []
pick p (r ∷ l) = cond (p r) (r ∷ pick p l) (pick p l)

-- word w lies within the n words from `at` on
unfoldable pub spanning : ℕ → ℕ → ℕ → Bool
spanning at n w = leb at w && ltb w (at + n)

-- what a difference at `at` adds to word w, and what a record adds
unfoldable pub share : ℕ → List ℕ → ℕ → ℕ
share at diff w = mask (spanning at (length diff) w) (get_or diff (w - at) 0)

unfoldable pub adds : ℕ → Entry → ℕ
adds w r = mask (not (is_close r)) (share r.at r.diff w)

-- the list has a closing record of the transaction
unfoldable pub closed_in : List Entry → ℕ → Bool
closed_in l t = some (λ r. is_close r && eqb r.number t) l

-- restart's choice: a finished transaction's record that is not in backup c, or an unfinished one's that is
unfoldable pub chosen : (ℕ → Bool) → ℕ → Entry → Bool
chosen closed c r = cond (closed r.number) (leb c r.copy) (not (leb c r.copy))

unfoldable pub on_disk : ℕ → Entry → Bool
on_disk d r = eqb r.disk d

-- A write of a value at a place of the page memory.
pub record Patch : Type 0 where
  pub at : ℕ
  pub value : List ℕ

-- word w after the write, where it was x
unfoldable pub patch : ℕ → Patch → ℕ → ℕ
patch w e x = cond (spanning e.at (length e.value) w) (get_or e.value (w - e.at) 0) x

-- after all of them, first to last
unfoldable pub patched : ℕ → List Patch → ℕ → ℕ
patched w [] x = x
patched w (e ∷ es) x = patched w es (patch w e x)
