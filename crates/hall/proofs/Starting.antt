-- The format that the program starts with.
use Prim.Native.Nat.{ℕ}
use mathlib.Core.Path.{◌≡◌, ap}
use Rattle.model.specs.declared.Answer.TheVariants.{Finished}
use Rattle.model.specs.declared.Sizes.{Sizes}
use Rattle.model.specs.declared.Carried.{Carried}
use Rattle.model.specs.declared.Handed.{Handed}
use Rattle.model.specs.World.{World, perform, stores, covered, run, made, finishes}
use Rattle.model.specs.State.{new_core}
use Rattle.model.specs.Refusal.{Result, verdict}
use Rattle.model.specs.Call.{format, new_state, result_of, Gives}
use Rattle.model.specs.View.{core_of, body_of, Serves}
use Rattle.model.proofs.View.Served.{served_gives}
use Rattle.hall.specs.Running.{sizes, formatting}

-- what `new_state` hands out
is_new : (fresh : Carried) (w : World) → Serves new_state fresh w (record { answer = Finished 0 0; carried = fresh }) 0 w → core_of fresh w.work ≡ new_core
unfolding Gives result_of verdict run made finishes covered perform stores
is_new fresh w serves = ap (λ (x : Result). x.core) (served_gives new_state fresh w (record { answer = Finished 0 0; carried = fresh }) 0 w serves)

pub formatted_anew : (fresh : Carried) (w v : World) (s : Sizes) (reply : Handed) (left : ℕ)
    → ((h : Carried) (x : World) → Serves new_state h x (record { answer = Finished 0 0; carried = fresh }) 0 x)
    → s ≡ sizes
    → Serves (format s 18446744073709551615) fresh w reply left v
    → (core_of reply.carried v.work ≡ (formatting (body_of w)).core) × (body_of v ≡ (formatting (body_of w)).world)
unfolding Gives formatting
formatted_anew fresh w v s reply left new same serves =
    let g : record { answer = reply.answer; budget = left; core = core_of reply.carried v.work; world = body_of v } ≡ formatting (body_of w) =
    rw (is_new fresh w (new fresh w), same) at (served_gives (format s 18446744073709551615) fresh w reply left v serves) in
    (ap (λ (x : Result). x.core) g, ap (λ (x : Result). x.world) g)
