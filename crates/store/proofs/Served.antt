-- A call that works on the whole state by value, and on the body of the work memory that the store lends it: what it gives, kept, is
-- what the store's call gives.
use mathlib.Core.Path.{◌≡◌, refl, sym, ap, ◌∙◌}
use mathlib.Core.List.{List, [], ◌++◌, append-nil}
use mathlib.Core.Bool.{Bool, true, false, cond}
use Prim.Native.Nat.{ℕ, ◌≤◌, min}
use native.Mathlib.Omega.{arith}
use lib.Dec.{leb}
use lib.ListN.{length, take, drop, take-append-drop, length-append, length-take, length-drop, drop_of_length-le}
use lib.Seq.{take_all, take_at, take-length, take-take, length-take-le}
use borrow.Author.Tests.{leb-true, leb-false}
use Rattle.model.specs.declared.Answer.{Answer}
use Rattle.model.specs.declared.Answer.TheVariants.{Finished, Refused, Interrupted}
use Rattle.model.specs.declared.Core.{Core}
use Rattle.model.specs.declared.Carried.{Carried}
use Rattle.model.specs.declared.Handed.{Handed}
use Rattle.model.specs.declared.Reply.{Reply}
use Rattle.model.specs.World.{World, world_of}
use Rattle.model.specs.State.{sound}
use Rattle.model.specs.Causes.{when_shut}
use Rattle.model.specs.Refusal.{Result}
use Rattle.model.specs.Call.{Call, task_of, budget_of, result_of, Gives}
use Rattle.model.specs.View.{head_words, core_of, carried_of, head_of, head_after, body_of, Serves}
use Rattle.model.proofs.Run.{run_lengths}
use Rattle.model.proofs.Store.Cases.{call_cases}
use Rattle.model.proofs.View.Seen.{behind_left}
use Rattle.frame.proofs.Behind.{lent_from, back_from, lent_from_lem, back_from_lem}
use Rattle.head.specs.Narrow.{narrowed}
use Rattle.head.specs.Saves.{saves}
use Rattle.head.proofs.Wrapped.{takes_state, wrapped_room, wrapped_serves}
use Rattle.store.specs.Handed.{Arrays}
use Rattle.store.proofs.Handing.{sound_served}

-- It is lent from where the body begins, or from the end where there is none.
start_parts : (work : List ℕ) → (take (min head_words (length work)) work ≡ take head_words work) × (drop (min head_words (length work)) work ≡ drop head_words work)
start_parts work = go (leb head_words (length work)) refl
  where
    go : (b : Bool) → leb head_words (length work) ≡ b
        → (take (min head_words (length work)) work ≡ take head_words work) × (drop (min head_words (length work)) work ≡ drop head_words work)
    go true e =
        let whole : min head_words (length work) ≡ head_words = omega (arith, leb-true head_words (length work) e) in
        rw whole (refl, refl)
    go false e =
        let short : min head_words (length work) ≡ length work = omega (arith, leb-false head_words (length work) e) in
        let fewer : length work ≤ head_words = omega (arith, leb-false head_words (length work) e) in
        rw short (
          take-length work ∙ sym (take_all head_words work fewer),
          drop_of_length-le work {i = length work} (omega arith) ∙ sym (drop_of_length-le work fewer),
        )

module _ (work : List ℕ) (from : ℕ) (start : from ≡ min head_words (length work)) where
  lent_body : lent_from from work ≡ drop head_words work
  lent_body = lent_from_lem from work ∙ ap (λ (n : ℕ). drop n work) start ∙ (start_parts work).1

  body_back : (body : List ℕ) → back_from from work body ≡ take head_words work ++ body
  body_back body = back_from_lem from work body ∙ ap (λ (n : ℕ). take n work ++ body) start ∙ ap (λ (front : List ℕ). front ++ body) (start_parts work).0

-- the first words of a memory whose body was changed
left_take : (work body : List ℕ) → length body ≡ length (drop head_words work) → take head_words (take head_words work ++ body) ≡ take head_words work
left_take work body same = go (leb head_words (length work)) refl
  where
    go : (b : Bool) → leb head_words (length work) ≡ b → take head_words (take head_words work ++ body) ≡ take head_words work
    go true e = take_at (take head_words work) body head_words (length-take-le head_words work (leb-true head_words (length work) e))
    go false e =
        let empty : body ≡ [] = drop_of_length-le body {i = 0} (omega (arith, same, length-drop head_words work, leb-false head_words (length work) e)) in
        rw (empty, append-nil (take head_words work)) (take-take head_words head_words work (omega arith))

-- The head after a call depends on no word of the body.
head_left : (a : Answer) (c : Core) (work other : List ℕ) → take head_words work ≡ take head_words other → head_after a c work ≡ head_after a c other
head_left (Finished count value) c work other e = ap (λ (head : List ℕ). cond (when_shut c.stage) head (head_of c)) e
head_left (Refused number first second) c work other e = e
head_left (Interrupted count) c work other e = e

-- The body keeps its length.
same_work : (k : Call) (c : Core) (w : World) → length (result_of k c w).world.work ≡ length w.work
same_work k c w =
    call_cases (λ (r : Result). length r.world.work ≡ length w.work) k c w
    (λ number first second v. refl)
    (λ v f. (run_lengths (budget_of k) (task_of k c w).actions w).work)
    (λ v f. (run_lengths (budget_of k) (task_of k c w).actions w).work)

-- what `kept` tells of a reply, of a work memory and of what it leaves there
abbrev Kept : Reply → Handed → (before after : List ℕ) → Type 0
Kept reply handed before after =
    (handed ≡ record { answer = reply.answer; carried = carried_of reply.core })
    × (after ≡ head_after reply.answer reply.core before ++ drop head_words before)

module _ (k : Call) (takes : takes_state k ≡ true) (h : Carried) (w : World) {core : Core}
    (in_state : (core ≡ narrowed (core_of h w.work)) × Arrays h) {from : ℕ} (start : from ≡ min head_words (length w.work))
    (reply : Reply) (left : ℕ) (v : World)
    (gives : Gives k core (world_of w.anchor w.pages w.backups w.logs (lent_from from w.work)) reply left v) where
  body_gives : Gives k core (body_of w) reply left v
  unfolding body_of
  body_gives = rw (sym (lent_body w.work from start)) gives

  same_body : length v.work ≡ length (drop head_words w.work)
  unfolding Gives body_of
  same_body = ap (λ (r : Result). length r.world.work) body_gives ∙ same_work k core (body_of w)

  pub lent_room : saves reply.answer reply.core.stage ≡ true → head_words ≤ length (back_from from w.work v.work)
  lent_room s =
      let long = length-append (take head_words w.work) v.work in
      rw (body_back w.work from start v.work)
      (omega (arith, wrapped_room k takes h w in_state.0 reply left v body_gives s, long, same_body, length-take head_words w.work, length-drop head_words w.work))

  lent_memory : (a : Answer) (c : Core)
      → head_after a c (back_from from w.work v.work) ++ drop head_words (back_from from w.work v.work) ≡ head_after a c w.work ++ v.work
  lent_memory a c =
      rw (
        body_back w.work from start v.work,
        behind_left w.work v.work same_body,
        head_left a c (take head_words w.work ++ v.work) w.work (left_take w.work v.work same_body),
      ) refl

  pub lent_served : {handed : Handed} {work : List ℕ} → Kept reply handed (back_from from w.work v.work) work
      → Serves k h w handed left (world_of v.anchor v.pages v.backups v.logs work)
      × (sound (core_of h w.work) ≡ true → sound (core_of handed.carried work) ≡ true)
  lent_served {handed} {work} kept =
      let serves : Serves k h w handed left (world_of v.anchor v.pages v.backups v.logs work) =
      rw (kept.0, kept.1, lent_memory reply.answer reply.core) (wrapped_serves k takes h w in_state.0 reply left v body_gives) in
      (serves, sound_served k h w handed left _ in_state.1 serves)

  -- A body that was lent to be read comes back as it was.
  module _ (same : v.work ≡ lent_from from w.work) where
    read_back : back_from from w.work v.work ≡ w.work
    read_back =
        body_back w.work from start v.work ∙ ap (λ (body : List ℕ). take head_words w.work ++ body) (same ∙ lent_body w.work from start)
        ∙ take-append-drop head_words w.work

    pub read_room : saves reply.answer reply.core.stage ≡ true → head_words ≤ length w.work
    read_room s = rw read_back at (lent_room s)

    pub read_served : {handed : Handed} {work : List ℕ} → Kept reply handed w.work work
        → Serves k h w handed left (world_of v.anchor v.pages v.backups v.logs work)
        × (sound (core_of h w.work) ≡ true → sound (core_of handed.carried work) ≡ true)
    read_served kept = lent_served (rw (← read_back) at kept)
