-- What a call gives, by its first lines (`common_refusal`) and by how it ends: refused, finished with nothing stored, or settled.
use mathlib.Core.Path.{◌≡◌, refl, ◌∙◌}
use mathlib.Core.List.{List, []}
use mathlib.Core.Bool.{Bool, true}
use Prim.Native.Nat.{ℕ}
use borrow.Author.Tests.{eq-eqb, ne_eqb, eqb-true, not-false}
use Rattle.model.specs.declared.Stage.{Stage}
use Rattle.model.specs.declared.Core.{Core}
use Rattle.model.specs.declared.Reply.{Reply}
use Rattle.model.specs.World.{World}
use Rattle.model.specs.State.{sound}
use Rattle.model.specs.Refusal.{Row, verdict, accepted, rejected}
use Rattle.model.specs.Causes.{stage_forbids, anchor_wrong, lengths_wrong}
use Rattle.model.specs.Reads.{fits_on}
use Rattle.model.specs.Call.{Call, rows_of, task_of, budget_of, Gives}
use Rattle.model.proofs.Booleans.{both}
use Rattle.model.proofs.Verdict.{row_passed}
use Rattle.model.proofs.Tested.{tested}
use Rattle.device.specs.Ran.{Ran}
use Rattle.frame.specs.Checks.{common_rows, CommonRefusal}
use Rattle.frame.specs.Settle.{refused_with, finished_with, settled, Concludes}
use Rattle.frame.proofs.Verdicts.{Passed, refusal_given, task_given, task_settled, task_storeless}

none_left : verdict [] ≡ accepted
unfolding verdict
none_left = refl

module _ {allowed : Stage → Bool} {c : Core} {w : World} {r : ℕ} (checks : CommonRefusal allowed c w r) where
  pub common_refused : (r ≡ 0 → ⊥) → (rest : List Row) → verdict (common_rows allowed (sound c) c w rest) ≡ rejected r 0 0
  common_refused some rest = checks.decides rest ∙ rw (ne_eqb r 0 some) refl

  module _ (none : r ≡ 0) where
    -- the rest decides
    pub common_decided : (rest : List Row) → verdict (common_rows allowed (sound c) c w rest) ≡ verdict rest
    common_decided rest = checks.decides rest ∙ rw (eq-eqb r 0 none) refl

    pub common_passed : Passed allowed c w
    unfolding stage_forbids anchor_wrong lengths_wrong
    common_passed =
        let r1 = row_passed _ _ (common_decided [] ∙ none_left) in
        let r2 = row_passed _ _ r1.1 in
        let r5 = row_passed _ _ r2.1 in
        let first = both (allowed c.stage) (fits_on (sound c) c w) (not-false _ r1.0) in
        let right = not-false _ r5.0 in
        record { stage = first.0; state = tested (sound c) c w first.1 right; anchor = eqb-true _ _ (not-false _ r2.0); lengths = right }

  -- A call whose rows begin with these.
  module _ (k : Call) {rest : List Row} (rows : rows_of k c w ≡ common_rows allowed (sound c) c w rest) where
    pub given_first : (r ≡ 0 → ⊥) → {reply : Reply} → reply ≡ refused_with c r 0 0 → Gives k c w reply (budget_of k) w
    given_first some e = rw e (refusal_given k c w r 0 0 (rw rows (common_refused some rest)))

    module _ (none : r ≡ 0) where
      -- another row applies
      pub given_refused : {number first second : ℕ} → verdict rest ≡ rejected number first second → {reply : Reply}
          → reply ≡ refused_with c number first second → Gives k c w reply (budget_of k) w
      given_refused {number} {first} {second} some e = rw e (refusal_given k c w number first second (rw rows (common_decided none rest ∙ some)))

      -- no row applies: the call does its task
      module _ (none_later : verdict rest ≡ accepted) where
        pub given_task : (v : World) (left : ℕ) (reply : Reply) → Concludes (budget_of k) left (task_of k c w) w v reply → Gives k c w reply left v
        given_task v left reply did = task_given k c w v left reply (rw rows (common_decided none rest ∙ none_later)) did

        -- How a storing call concludes: its actions have run, and the reply is settled.
        pub given_settled : {left : ℕ} {v : World} {whole : Bool} {core : Core} {reply : Reply}
            → Ran (budget_of k) left (task_of k c w).actions w v whole → (whole ≡ true → core ≡ (task_of k c w).core)
            → reply ≡ settled whole (budget_of k) left (task_of k c w).value core → Gives k c w reply left v
        given_settled ran same e = given_task _ _ _ (task_settled (task_of k c w) ran e same)

        -- and one that stores nothing
        pub given_finished : budget_of k ≡ 0 → (task_of k c w).actions ≡ [] → {core : Core} {reply : Reply} → core ≡ (task_of k c w).core
            → reply ≡ finished_with core (task_of k c w).value → Gives k c w reply 0 w
        given_finished free idle same e = given_task w 0 _ (rw (free, e, same) (task_storeless (task_of k c w) w idle))
