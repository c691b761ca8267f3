-- Classes computed: the disks that begins get under a table and after a restart, how bad tables are refused, and two tables under which one
-- transaction goes to two disks, with the same pages found after the power failed.
use mathlib.Core.Path.{◌≡◌, refl}
use mathlib.Core.Logic.{inl}
use Prim.Native.Nat.{ℕ}
use mathlib.Core.List.{List, [], ◌∷◌, ◌++◌, map}
use lib.ListN.{replicate}
use Rattle.model.specs.declared.Core.{Core}
use Rattle.model.specs.Refusal.{number_of, first_of}
use Rattle.model.specs.Transaction.{disk_of}
use Rattle.model.specs.Call.{Call, begin, update, commit, set_classes, restart_begin, restart_run, restart_end, new_state}
use Rattle.model.specs.Machine.{Machine, call, result, formatted}
use Rattle.model.specs.ClassPromise.{same, tables, AllAlike, after_all, TakenAll, Failed, failed_at, restarts_only, Found}
use Rattle.model.proofs.Everything.{everything}
use Rattle.model.proofs.Play.{unformatted}
use Rattle.model.proofs.Positions.{plenty}
use Rattle.model.proofs.Idle.{hall_sizes}

-- the hall's store, formatted: two disks
unfoldable pub hall : Machine
hall = (formatted (unformatted hall_sizes) hall_sizes plenty).machine

abbrev does : List Call → Core
does calls = (after_all (map call calls) hall).core

-- Classes 0 to 9 on disk 1, the others on disk 0.
abbrev split : List ℕ
split = 0 ∷ 9 ∷ 2 ∷ 10 ∷ 255 ∷ 1 ∷ []

abbrev restart : List Call
restart = new_state ∷ restart_begin ∷ restart_run 0 plenty ∷ restart_run 1 plenty ∷ restart_run 2 plenty ∷ restart_end plenty ∷ []

pub classes_computed : map (disk_of (does (set_classes split ∷ begin 0 ∷ begin 9 ∷ begin 10 ∷ begin 255 ∷ []))) (1 ∷ 2 ∷ 3 ∷ 4 ∷ []) ≡ 1 ∷ 1 ∷ 0 ∷ 0 ∷ []
unfolding everything unformatted hall_sizes hall after_all
classes_computed = refl

-- a restart leaves no table: its first begin gets the first disk again, whatever its class
pub restarted_computed : disk_of (does (set_classes split ∷ begin 0 ∷ restart ++ begin 0 ∷ [])) 1 ≡ 0
unfolding everything unformatted hall_sizes hall after_all
restarted_computed = refl

-- How a table is refused, and the value returned.
abbrev answer : List ℕ → List ℕ
answer lines = number_of (result hall (set_classes lines)).answer ∷ first_of (result hall (set_classes lines)).answer ∷ []

pub refusals_computed : map answer
    -- no line, seventeen, and no whole one
    ([] ∷ replicate 51 1 ∷ (0 ∷ 255 ∷ 1 ∷ 1 ∷ [])
    -- low above high, in the second line; high above 255; an empty set; a third disk of two
    ∷ (0 ∷ 255 ∷ 1 ∷ 3 ∷ 2 ∷ 1 ∷ []) ∷ (0 ∷ 256 ∷ 1 ∷ []) ∷ (0 ∷ 255 ∷ 0 ∷ []) ∷ (0 ∷ 255 ∷ 4 ∷ [])
    -- 255 not covered; 7 covered twice; 7 covered twice and 200 not
    ∷ (0 ∷ 254 ∷ 3 ∷ []) ∷ (0 ∷ 255 ∷ 1 ∷ 7 ∷ 7 ∷ 2 ∷ []) ∷ (0 ∷ 199 ∷ 1 ∷ 7 ∷ 7 ∷ 2 ∷ 201 ∷ 255 ∷ 1 ∷ []) ∷ split ∷ [])
    ≡ (5 ∷ 0 ∷ []) ∷ (5 ∷ 0 ∷ []) ∷ (5 ∷ 0 ∷ []) ∷ (17 ∷ 1 ∷ []) ∷ (17 ∷ 0 ∷ []) ∷ (17 ∷ 0 ∷ []) ∷ (17 ∷ 0 ∷ []) ∷ (18 ∷ 255 ∷ [])
    ∷ (19 ∷ 7 ∷ []) ∷ (18 ∷ 200 ∷ []) ∷ (0 ∷ 0 ∷ []) ∷ []
unfolding everything unformatted hall_sizes hall
refusals_computed = refl

-- The premises of TwoTables are met: every class on disk 0, or every class on disk 1.
abbrev under : (set : ℕ) → List Call
under set = set_classes (0 ∷ 255 ∷ set ∷ []) ∷ begin 5 ∷ update 1 0 0 (2 ∷ []) plenty ∷ commit 1 plenty ∷ begin 5 ∷ []

pub alike : AllAlike (under 1) (under 2)
unfolding AllAlike
alike = (tables _ _, (same _, (same _, (same _, (same _, tt)))))

pub two_disks_lem : disk_of (does (under 1)) 2 ∷ disk_of (does (under 2)) 2 ∷ [] ≡ 0 ∷ 1 ∷ []
unfolding everything unformatted hall_sizes hall after_all
two_disks_lem = refl

unfoldable pub one_fails : Failed hall (under 1)
unfolding everything unformatted hall_sizes hall after_all TakenAll
one_fails = record { allowed = refl; taken = (refl, (refl, (refl, (refl, (refl, tt))))); failing = new_state; may = refl; fails = inl refl }

unfoldable pub other_fails : Failed hall (under 2)
unfolding everything unformatted hall_sizes hall after_all TakenAll
other_fails = record { allowed = refl; taken = (refl, (refl, (refl, (refl, (refl, tt))))); failing = new_state; may = refl; fails = inl refl }

-- Restarts find the committed value, from whichever disk.
abbrev found : List ℕ
found = 2 ∷ replicate 7 0

pub one_found : Found (failed_at one_fails) found
unfolding everything unformatted hall_sizes hall after_all one_fails restarts_only
one_found =
    record {
      restarts = map call (restart_begin ∷ restart_run 0 plenty ∷ restart_run 1 plenty ∷ restart_run 2 plenty ∷ []);
      only = refl;
      allowed = refl;
      budget = plenty;
      ends = refl;
      leaves = refl;
    }

-- the sources in another order, after a restart that is cut in its end
pub other_found : Found (failed_at other_fails) found
unfolding everything unformatted hall_sizes hall after_all other_fails restarts_only
other_found =
    record {
      restarts = map call (restart_begin ∷ restart_run 0 plenty ∷ restart_run 1 plenty ∷ restart_run 2 plenty ∷ restart_end 3
          ∷ restart_begin ∷ restart_run 2 plenty ∷ restart_run 1 plenty ∷ restart_run 0 plenty ∷ []);
      only = refl;
      allowed = refl;
      budget = plenty;
      ends = refl;
      leaves = refl;
    }
