-- The order of what is listed: by disk, then by position.
use mathlib.Core.Path.{◌≡◌, refl, sym}
use mathlib.Core.Logic.{inl, inr}
use mathlib.Core.List.{List, [], ◌∷◌, ◌++◌}
use Prim.Native.Nat.{ℕ, zero, suc, ◌≤◌}
use native.Mathlib.Omega.{arith}
use Rattle.model.specs.declared.Sizes.{Sizes}
use Rattle.model.specs.Below.{join_below}
use Rattle.model.specs.Anchor.{sizes_on, start_on}
use Rattle.model.specs.Decode.{read_log}
use Rattle.model.specs.Scan.{Scan, end, bad, item}
use Rattle.model.specs.Causes.{tail_in, retained_from}
use Rattle.model.specs.Listing.{shown, Listed, listed_in, listed_on}
use Rattle.model.specs.ListingLaws.{Before, InOrder, ListedInOrder}
use Rattle.model.proofs.Members.{Every, every_nil, every_cons, every_append, first_of, others_of, every_join}
use Rattle.model.proofs.Reading.{Rises, scan_rises}

-- the records of a disk's log: of that disk, from m on
record FromDisk (d m : ℕ) (e : Listed) : Type 0 where
  disk_is : e.disk ≡ d
  position_ge : m ≤ e.position

from_on : (d m : ℕ) (sc : Scan) → Rises m sc → Every (FromDisk d m) (listed_in d sc)
unfolding listed_in
from_on d m end h = every_nil (FromDisk d m)
from_on d m (bad p) h = every_nil (FromDisk d m)
from_on d m (item p r rest) h =
    every_cons (FromDisk d m) (record { disk = d; position = p; content = shown r }) (listed_in d rest) (record { disk_is = refl; position_ge = h.0 })
    (λ e l. let o = from_on d (suc p) rest h.1 e l in record { disk_is = o.disk_is; position_ge = omega (arith, h.0, o.position_ge) })

in_order : (d m : ℕ) (sc : Scan) → Rises m sc → InOrder (listed_in d sc)
unfolding listed_in
in_order d m end h = tt
in_order d m (bad p) h = tt
in_order d m (item p r rest) h =
    (λ f l. let o = from_on d (suc p) rest h.1 f l in inr (sym o.disk_is, o.position_ge), in_order d (suc p) rest h.1)

-- two lists in order, the second behind the first
both_in_order : (es fs : List Listed) → InOrder es → InOrder fs → Every (λ e. Every (Before e) fs) es → InOrder (es ++ fs)
both_in_order [] fs o u h = u
both_in_order (e ∷ es) fs o u h = (every_append (Before e) es fs o.0 (first_of h), both_in_order es fs o.1 u (others_of h))

-- the logs of n disks, one behind the other
join_order : (f : ℕ → List Listed) (n : ℕ) → ((d : ℕ) → InOrder (f d)) → ((d : ℕ) → Every (λ e. e.disk ≡ d) (f d)) → InOrder (join_below f n)
unfolding join_below
join_order f zero o own = tt
join_order f (suc n) o own =
    both_in_order (join_below f n) (f n) (join_order f n o own) (o n)
    (every_join (λ (e : Listed). Every (Before e) (f n)) f n (λ d l e m g k. inl (omega (arith, own d e m, own n g k))))

retained_rises : (s : Sizes) (start : ℕ → ℕ) (logs : List ℕ) (d : ℕ) → Rises (start d) (retained_from s start logs d)
unfolding retained_from
retained_rises s start logs d = scan_rises s (read_log s logs d (tail_in s logs d) []) (tail_in s logs d) (start d)

pub listed_in_order : ListedInOrder
unfolding ListedInOrder listed_on
listed_in_order anchor logs =
    let s : Sizes = sizes_on anchor in
    let start : ℕ → ℕ = start_on anchor in
    join_order (λ d. listed_in d (retained_from s start logs d)) s.disks
    (λ d. in_order d (start d) (retained_from s start logs d) (retained_rises s start logs d))
    (λ d e m. (from_on d (start d) (retained_from s start logs d) (retained_rises s start logs d) e m).disk_is)
