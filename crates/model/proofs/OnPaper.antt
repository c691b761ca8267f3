-- A small log on paper, computed.
use mathlib.Core.Path.{◌≡◌, refl}
use mathlib.Core.List.{List, [], ◌∷◌, ◌++◌, map}
use lib.ListN.{replicate}
use Rattle.model.specs.declared.Stage.TheVariants.{Shut}
use Rattle.model.specs.Refusal.{number_of}
use Rattle.model.specs.Listing.{line_after}
use Rattle.model.specs.Call.{Call, format, begin, update, look, list_line, list_lines, commit, abort, new_state}
use Rattle.model.specs.Reference.{answered}
use Rattle.model.specs.Machine.{Machine}
use Rattle.model.proofs.Everything.{everything}
use Rattle.model.proofs.Play.{does, play, shows, unformatted}
use Rattle.model.proofs.Positions.{small, plenty}

-- One page of two one-word slots, one disk. Transaction 1 sets slot 0 and commits, 2 sets slot 1 and aborts, 3 commits; then the power
-- goes. The six records are an update at 0, a commit at 4, an update at 6, a compensation at 10, an abort at 14 and a commit at 16: with
-- their heading seven lines.
pub written : List Call
written =
    format (small 1) plenty ∷ begin 0 ∷ update 1 0 0 (2 ∷ []) plenty ∷ commit 1 plenty ∷ begin 0 ∷ update 2 0 1 (7 ∷ []) plenty ∷ abort 2 plenty
    ∷ begin 0 ∷ commit 3 plenty ∷ new_state ∷ []

pub paper : Machine
paper = play (map does written) (unformatted (small 1))

-- An open store shows no line, and an empty log has none.
pub empty_computed : shows number_of (map does (format (small 1) plenty ∷ look (list_line 0 73) ∷ new_state ∷ look (list_line 0 73) ∷ [])) (unformatted (small 1))
    ≡ 0 ∷ 1 ∷ 0 ∷ 8 ∷ []
unfolding everything unformatted small does shows
empty_computed = refl

-- Lines 0 and 6 are there, 7 is not; 72 bytes are no line.
pub answers_computed : shows number_of (map does (look (list_line 0 73) ∷ look (list_line 6 73) ∷ look (list_line 7 73) ∷ look (list_line 0 72) ∷ look (list_lines 7 0) ∷ [])) paper
    ≡ 0 ∷ 0 ∷ 8 ∷ 5 ∷ 8 ∷ []
unfolding everything unformatted small written paper does play shows
answers_computed = refl

-- from line 2 on there are five, and room for as many as are asked for
pub lines_computed : shows answered (map does (look (list_lines 2 730) ∷ look (list_lines 2 146) ∷ look (list_lines 2 0) ∷ [])) paper ≡ 5 ∷ 2 ∷ 0 ∷ []
unfolding everything unformatted small written paper does play shows
lines_computed = refl

-- line 4, "0                     10   compensation                      2  0   1  1"
pub compensation_computed : line_after Shut paper.world.anchor paper.world.logs 4 (replicate 73 7)
    ≡ (48 ∷ []) ++ (replicate 21 32 ++ ((49 ∷ 48 ∷ []) ++ (replicate 3 32
    ++ ((99 ∷ 111 ∷ 109 ∷ 112 ∷ 101 ∷ 110 ∷ 115 ∷ 97 ∷ 116 ∷ 105 ∷ 111 ∷ 110 ∷ []) ++ (replicate 22 32 ++ ((50 ∷ []) ++ (replicate 2 32
    ++ ((48 ∷ []) ++ (replicate 3 32 ++ ((49 ∷ []) ++ (replicate 2 32 ++ (49 ∷ 10 ∷ []))))))))))))
unfolding everything unformatted small written paper does play
compensation_computed = refl

-- line 5, an abort: page, slot and length are blank
pub close_computed : line_after Shut paper.world.anchor paper.world.logs 5 (replicate 73 7)
    ≡ (48 ∷ []) ++ (replicate 21 32 ++ ((49 ∷ 52 ∷ []) ++ (replicate 10 32 ++ ((97 ∷ 98 ∷ 111 ∷ 114 ∷ 116 ∷ [])
    ++ (replicate 22 32 ++ ((50 ∷ []) ++ (replicate 10 32 ++ (10 ∷ []))))))))
unfolding everything unformatted small written paper does play
close_computed = refl
