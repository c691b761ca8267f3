-- The pages by the words of the head: what `bases_right` and the bounds on the sizes say of them (proofs/PagesRight.antt).
use Rattle.std.specs.Prelude.{List, Bool, ◌&&◌, ◌||◌, ℕ, ◌+◌, ◌*◌, leb, ltb, eqb, get_or}
use Rattle.model.specs.Below.{within, sum_below, all_below}
use Rattle.model.specs.State.{limit}
use Rattle.model.specs.View.{head_slots, head_widths, head_bases, head_positions}

-- an entry of these numbers is a page's, which begins where those before it end
unfoldable pub entry_right : (slots width base sum : ℕ) → Bool
entry_right slots width base sum = (within 1 128 slots && within 1 32 width && leb (slots * width) 128) && eqb base sum

-- the words of a page, and of those before it
abbrev pub words_at : (work : List ℕ) → ℕ → ℕ
words_at work page = get_or work (head_slots + page) 0 * get_or work (head_widths + page) 0

abbrev pub used_at : (work : List ℕ) → ℕ → Bool
used_at work page =
    entry_right (get_or work (head_slots + page) 0) (get_or work (head_widths + page) 0) (get_or work (head_bases + page) 0) (sum_below (words_at work) page)

unfoldable pub used_right : (work : List ℕ) → (end t : ℕ) → Bool
used_right work end t = all_below (used_at work) end && eqb (sum_below (words_at work) end) t

-- an entry that is no page's has no words, and T as its base
abbrev pub unused_at : (work : List ℕ) → (from t : ℕ) → ℕ → Bool
unused_at work from t page =
    ltb page from || eqb (get_or work (head_slots + page) 0) 0 && eqb (get_or work (head_widths + page) 0) 0 && eqb (get_or work (head_bases + page) 0) t

unfoldable pub unused_right : (work : List ℕ) → (from t : ℕ) → Bool
unused_right work from t = all_below (unused_at work from t) 64

-- a log's tail is within bounds, and its next position not past it
abbrev pub position_right : (work tails : List ℕ) → ℕ → Bool
position_right work tails d = leb (get_or tails d 0) limit && leb (get_or work (head_positions + d) 0) (get_or tails d 0)
