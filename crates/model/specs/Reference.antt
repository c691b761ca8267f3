-- 01, "The book": the reference that the store is held to.
use Rattle.std.specs.Prelude.{ℕ, ◌+◌, List, [], ◌∷◌, ◌++◌, Bool, true, false, cond, not, ◌&&◌, ◌||◌, set, replicate, eqb}
use Rattle.model.specs.declared.Sizes.{Sizes}
use Rattle.model.specs.declared.Core.{Core}
use Rattle.model.specs.declared.Answer.{Answer}
use Rattle.model.specs.declared.Answer.TheVariants.{Finished, Refused, Interrupted}
use Rattle.model.specs.Below.{sum_below, join_below}
use Rattle.model.specs.Sizes.{slots_in, width_in}
use Rattle.model.specs.World.{World}
use Rattle.model.specs.Call.{Call, format, begin, update, look, commit, abort, set_classes, checkpoint_begin, checkpoint_step, checkpoint_end, restart_begin, restart_step, restart_run, restart_end, new_state}

-- An entry: page, slot and value.
pub record Write : Type 0 where
  pub page : ℕ
  pub slot : ℕ
  pub value : List ℕ

-- A write set: the writes of an open transaction, first to last.
pub record WriteSet : Type 0 where
  pub number : ℕ
  pub writes : List Write

-- `committed` is 01's results: "a value for each slot in the page memory's order".
pub record Reference : Type 0 where
  pub sizes : Sizes
  pub committed : List (List ℕ)
  pub write_sets : List WriteSet

-- "whether the call was taken, refused or cut"
pub data Outcome : Type 0 where
  taken : Outcome
  refused : Outcome
  interrupted : Outcome

abbrev pub outcome_of : Answer → Outcome
outcome_of (Finished count value) = taken
outcome_of (Refused number first second) = refused
outcome_of (Interrupted count) = interrupted

-- "It is fed each call's arguments, whether the call was taken, refused or cut, and the number a begin answers; nothing from devices,
-- state or pages."
pub record Heard : Type 0 where
  pub call : Call
  pub outcome : Outcome
  pub number : ℕ

abbrev pub is_begin : Call → Bool
is_begin (begin class) = true
is_begin (format s budget) = false
is_begin (update number page slot value budget) = false
is_begin (look q) = false
is_begin (commit number budget) = false
is_begin (abort number budget) = false
is_begin (set_classes lines) = false
is_begin checkpoint_begin = false
is_begin (checkpoint_step budget) = false
is_begin (checkpoint_end budget) = false
is_begin restart_begin = false
is_begin (restart_step source) = false
is_begin (restart_run source most) = false
is_begin (restart_end budget) = false
is_begin new_state = false

abbrev pub answered : Answer → ℕ
answered (Finished count value) = value
answered (Refused number first second) = 0
answered (Interrupted count) = 0

-- of the state and the words, nothing; they stand here for a request that feeds it the disks that a call's stores went to
abbrev pub heard_of : Call → Core → World → Answer → Heard
heard_of call c w a = record { call = call; outcome = outcome_of a; number = cond (is_begin call) (answered a) 0 }

-- "all zero after format"
unfoldable pub blank : Sizes → Reference
blank s =
    record { sizes = s; committed = join_below (λ p. replicate (slots_in s p) (replicate (width_in s p) 0)) s.pages; write_sets = [] }

-- the place of a slot among all slots, in the page memory's order
unfoldable pub slot_index : Sizes → ℕ → ℕ → ℕ
slot_index s page slot = sum_below (slots_in s) page + slot

-- the transaction has a write set
unfoldable pub has_set : ℕ → List WriteSet → Bool
has_set number [] = false
has_set number (x ∷ xs) = eqb x.number number || has_set number xs

-- a transaction's writes
unfoldable pub writes_of : ℕ → List WriteSet → List Write
writes_of number [] = []
writes_of number (x ∷ xs) = cond (eqb x.number number) x.writes (writes_of number xs)

unfoldable pub added : ℕ → Write → List WriteSet → List WriteSet
added number e [] = []
added number e (x ∷ xs) =
    cond (eqb x.number number) (record { number = number; writes = x.writes ++ e ∷ [] } ∷ xs) (x ∷ added number e xs)

unfoldable pub removed : ℕ → List WriteSet → List WriteSet
removed number [] = []
removed number (x ∷ xs) = cond (eqb x.number number) xs (x ∷ removed number xs)

-- writes set in the table of slots, first to last
unfoldable pub applied : Sizes → List Write → List (List ℕ) → List (List ℕ)
applied s [] table = table
applied s (e ∷ es) table = applied s es (set table (slot_index s e.page e.slot) e.value)

abbrev pub with_sets : Reference → List WriteSet → Reference
with_sets r sets = record { sizes = r.sizes; committed = r.committed; write_sets = sets }

-- The six rules, for a call taken.
abbrev pub after_taken : Call → ℕ → Reference → Reference
-- a format makes a new book; in a list of events it is only ever refused
after_taken (format s budget) n r = blank s
-- "Begin taken: an empty sheet under the number answered."
after_taken (begin class) n r = with_sets r (record { number = n; writes = [] } ∷ r.write_sets)
-- "Update taken: page, slot and value go to the end of its sheet."
after_taken (update number page slot value budget) n r =
    with_sets r (added number (record { page = page; slot = slot; value = value }) r.write_sets)
-- "Commit taken: the sheet's entries are set in the results, first to last, and the sheet goes."
after_taken (commit number budget) n r =
    record { sizes = r.sizes; committed = applied r.sizes (writes_of number r.write_sets) r.committed; write_sets = removed number r.write_sets }
-- "Abort taken: the sheet goes."
after_taken (abort number budget) n r = with_sets r (removed number r.write_sets)
-- "Any call cut, or a new state: all sheets go, the results stay."
after_taken new_state n r = with_sets r []
-- "Any other call, and every refused one: nothing."
after_taken (look q) n r = r
after_taken (set_classes lines) n r = r
after_taken checkpoint_begin n r = r
after_taken (checkpoint_step budget) n r = r
after_taken (checkpoint_end budget) n r = r
after_taken restart_begin n r = r
after_taken (restart_step source) n r = r
after_taken (restart_run source most) n r = r
after_taken (restart_end budget) n r = r

abbrev pub after_outcome : Outcome → Call → ℕ → Reference → Reference
after_outcome taken call n r = after_taken call n r
after_outcome refused call n r = r
-- "Any call cut, or a new state: all sheets go, the results stay."
after_outcome interrupted call n r = with_sets r []

unfoldable pub hear : Heard → Reference → Reference
hear h r = after_outcome h.outcome h.call h.number r

-- the words of a table of slots, in order: what the page memory is compared with
unfoldable pub words_in : List (List ℕ) → List ℕ
words_in [] = []
words_in (value ∷ rest) = value ++ words_in rest

-- The plain table of slots: the committed contents with the open write sets laid over them.
unfoldable pub laid_over : Sizes → List WriteSet → List (List ℕ) → List (List ℕ)
laid_over s [] table = table
laid_over s (x ∷ xs) table = laid_over s xs (applied s x.writes table)

unfoldable pub plain_table : Reference → List (List ℕ)
plain_table r = laid_over r.sizes r.write_sets r.committed

-- a write set has a write to the slot; another transaction's has
unfoldable pub writes_slot : ℕ → ℕ → List Write → Bool
writes_slot page slot [] = false
writes_slot page slot (e ∷ es) = (eqb e.page page && eqb e.slot slot) || writes_slot page slot es

unfoldable pub written_by_other : ℕ → ℕ → ℕ → List WriteSet → Bool
written_by_other number page slot [] = false
written_by_other number page slot (x ∷ xs) =
    (not (eqb x.number number) && writes_slot page slot x.writes) || written_by_other number page slot xs
