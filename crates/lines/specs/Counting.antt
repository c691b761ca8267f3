-- "The program keeps one tally of taken, refused and cut lines."
use Rattle.std.specs.Prelude.{ℕ, ◌+◌, cond, ltb, eqb, Option, None, Some}
use Rattle.lines.specs.declared.tally.Tally.{Tally}

-- one more; a count stays at the largest word
unfoldable pub one_more : ℕ → ℕ
one_more n = cond (ltb n 18446744073709551615) (n + 1) n

-- A line by its answer, None for a line of any other form: 0 is taken, 16 is cut, all else is refused.
unfoldable pub counted : Tally → Option ℕ → Tally
counted t None = record { taken = t.taken; refused = one_more t.refused; cut = t.cut }
counted t (Some answer) =
    cond (eqb answer 0) (record { taken = one_more t.taken; refused = t.refused; cut = t.cut })
    (cond (eqb answer 16) (record { taken = t.taken; refused = t.refused; cut = one_more t.cut })
    (record { taken = t.taken; refused = one_more t.refused; cut = t.cut }))
