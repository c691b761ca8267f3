-- `run::fates::Fates::meet` meets its contract, by where the number stands.
use mathlib.Core.Path.{◌≡◌, refl}
use mathlib.Core.Bool.{false}
use Prim.Native.Nat.{ℕ, ◌<◌}
use lib.ListN.{length, get_or}
use borrow.Author.Rules.{rules}
use Rattle.run.proofs.Searching.{search_after}
use Rattle.run.proofs.fates.Fates.meet.Goals as goal

pub returns-in-None : goal.returns-in-None
returns-in-None c =
    let before = c.args.self.now in
    let long : length before.numbers ≡ 16 = search rules in
    let wide : length before.closed ≡ 16 = search rules in
    let absent : (i : ℕ) → i < before.used → get_or before.numbers i 0 ≡ c.args.number → ⊥ = λ i l e. c.in-None.ensures i l e in (
      c.put.ensures.grown,
      λ fate ahead first some m.
          search_after m c.args.number (λ x ne. refl) false (λ l. m.unmet l _ absent) absent some before.room long wide c.put.ensures.full c.put.ensures.put,
    )
