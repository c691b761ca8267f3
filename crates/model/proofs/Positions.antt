-- 01, "Positions from play": P1 to P12 on the definitions, as one table.
use mathlib.Core.Path.{◌≡◌, refl}
use Prim.Native.Nat.{ℕ, zero, suc, ◌+◌}
use mathlib.Core.List.{List, [], ◌∷◌, ◌++◌}
use lib.ListN.{get_or, replicate}
use Rattle.model.specs.declared.Sizes.{Sizes}
use Rattle.model.specs.World.{World}
use Rattle.model.specs.Memory.{buffer_at}
use Rattle.model.specs.State.{new_core}
use Rattle.model.specs.Refusal.{number_of, stores_of}
use Rattle.model.specs.Call.{format, begin, update, commit, abort, checkpoint_begin, checkpoint_step, checkpoint_end, restart_begin, result_of}
use Rattle.model.specs.Machine.{Machine}
use Rattle.model.proofs.Everything.{everything}
use Rattle.model.proofs.Play.{Step, does, play, numbers, answers, unformatted, drained, restart_by, gives}

-- more stores than any call here makes
abbrev pub plenty : ℕ
plenty = 1000

-- "One page of two one-word slots, D = 1, W = 128": here with slots of any width
unfoldable pub small : ℕ → Sizes
small width = record { pages = 1; disks = 1; ring = 128; slots = 2 ∷ replicate 63 0; widths = width ∷ replicate 63 0 }

unfoldable pub fresh : Machine
fresh = play (does (format (small 1) plenty) ∷ []) (unformatted (small 1))

-- "slot 0 committed as 2"
unfoldable pub set_up : Machine
set_up = play (does (begin 0) ∷ does (update 1 0 0 (2 ∷ []) plenty) ∷ does (commit 1 plenty) ∷ []) fresh

-- a second transaction that sets the slot to 12
unfoldable pub twelve : List Step
twelve = does (begin 0) ∷ does (update 2 0 0 (12 ∷ []) plenty) ∷ []

abbrev pub mark : Step
mark = does checkpoint_begin

abbrev pub copy : Step
copy = does (checkpoint_step plenty)

abbrev pub finish : ℕ → Step
finish budget = does (checkpoint_end budget)

-- updates of one transaction
unfoldable pub updates : ℕ → List Step
updates n = replicate n (does (update 1 0 0 (12 ∷ []) plenty))

-- a formatted store whose ring is full of closing records, and whose tail is t
tail_at : ℕ → World
tail_at t =
    record {
      anchor = fresh.world.anchor;
      pages = fresh.world.pages;
      backups = fresh.world.backups;
      logs = t ∷ alternating 64;
      work = fresh.world.work;
    }
  where
    alternating : ℕ → List ℕ
    alternating zero = []
    alternating (suc n) = 2 ∷ 1 ∷ alternating n

-- what the table computes, in 01's order, in three parts: one check of all of it would be too long
unfoldable first : List ℕ
first =
    -- P1 format makes 152 stores
    stores_of (result_of (format (small 1) plenty) new_core (unformatted (small 1)).world).answer
    -- P2 update to 12 logs 14; word 0 is 65,536
    ∷ get_or (play twelve set_up).world.work (buffer_at 0 + 3) 0
    ∷ get_or (play twelve set_up).world.work (buffer_at 0) 0
    -- P3 commit cut at 6: restart gives 2. P4 allowance 7: gives 12.
    ∷ gives 0 (play (twelve ++ does (commit 2 6) ∷ []) set_up)
    ∷ gives 0 (play (twelve ++ does (commit 2 7) ∷ []) set_up)
    ∷ []

unfoldable second : List ℕ
second =
    -- P5 update to 12, mark, abort, then copy and close: gives 2
    gives 0 (play (twelve ++ mark ∷ does (abort 2 plenty) ∷ copy ∷ finish plenty ∷ []) set_up)
    -- P6 update to 12, mark, copy and close, cut: gives 2
    ∷ gives 0 (play (twelve ++ mark ∷ copy ∷ finish plenty ∷ []) set_up)
    -- P7 page copied, then update to 12 and commit, then close: gives 12. P8 the same, close cut before its last store: gives 12.
    ∷ gives 0 (play (mark ∷ copy ∷ twelve ++ does (commit 2 plenty) ∷ finish plenty ∷ []) set_up)
    ∷ gives 0 (play (mark ∷ copy ∷ twelve ++ does (commit 2 plenty) ∷ finish 1 ∷ []) set_up)
    ∷ []

unfoldable third : List ℕ
third =
    -- P9 freshly formatted, one transaction: 15 updates fit, each answers 0. P10 the 16th answers 14.
    numbers (updates 16) (play (does (begin 0) ∷ []) fresh)
    -- P11 slot length 32 accepted, 33 answers 4
    ++ answers [] (format (small 32) plenty) (unformatted (small 32))
    ∷ answers [] (format (small 33) plenty) (unformatted (small 33))
    -- P12 tail = start + 128 passes check 6, 129 answers 6
    ∷ number_of (result_of restart_begin new_core (tail_at 128)).answer
    ∷ number_of (result_of restart_begin new_core (tail_at 129)).answer
    ∷ []

first_is : first ≡ 152 ∷ 14 ∷ 65536 ∷ 2 ∷ 12 ∷ []
unfolding everything first small fresh set_up twelve does play unformatted drained restart_by gives
first_is = refl

second_is : second ≡ 2 ∷ 2 ∷ 12 ∷ 12 ∷ []
unfolding everything second small fresh set_up twelve does play unformatted drained restart_by gives
second_is = refl

third_is : third ≡ replicate 15 0 ++ 14 ∷ 0 ∷ 4 ∷ 0 ∷ 6 ∷ []
unfolding everything third small fresh updates tail_at does play numbers answers unformatted
third_is = refl

pub positions : List ℕ
positions = first ++ (second ++ third)

pub positions_from_play : positions ≡ 152 ∷ 14 ∷ 65536 ∷ 2 ∷ 12 ∷ 2 ∷ 2 ∷ 12 ∷ 12 ∷ [] ++ replicate 15 0 ++ 14 ∷ 0 ∷ 4 ∷ 0 ∷ 6 ∷ []
unfolding positions
positions_from_play = rw (first_is, second_is, third_is)
