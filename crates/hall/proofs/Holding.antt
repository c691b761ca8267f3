-- What the code holds after a line, after a piece of one, before the first line and after the last.
use Prim.Native.Nat.{ℕ, ◌≤◌}
use mathlib.Core.Path.{◌≡◌, refl, sym, ap, ◌∙◌}
use mathlib.Core.List.{List, [], ◌∷◌, ◌++◌, append-nil, append_assoc}
use mathlib.Core.Bool.{Bool, true, false, not}
use native.Mathlib.Omega.{arith}
use lib.ListN.{length, take}
use Rattle.std.specs.Prelude.{Option}
use Rattle.model.specs.World.{World}
use Rattle.model.specs.View.{core_of, body_of}
use Rattle.lines.specs.declared.command.Command.{Command}
use Rattle.lines.specs.declared.partial.Partial.{Partial}
use Rattle.lines.specs.declared.tally.Tally.{Tally}
use Rattle.lines.specs.Line.{is_empty, command_of}
use Rattle.lines.specs.After.{command_after}
use Rattle.lines.specs.Output.{tally_text}
use Rattle.lines.specs.Counting.{one_more, counted}
use Rattle.commands.specs.declared.outcome.Done.{Done}
use Rattle.commands.specs.Meaning.{Line, line_of, line_seen}
use Rattle.store.specs.declared.State.{State}
use Rattle.hall.specs.declared.console.Console.{Console}
use Rattle.hall.specs.Running.{Program, answer_of, text_of, line_taken, with_read, with_tally, heading, formatting, started}
use Rattle.hall.specs.Held.{Holds, Stands}

-- a console with another fill
abbrev pub filled : Console → ℕ → Console
filled c fill = record { state = c.state; tally = c.tally; line = c.line; partial = c.partial; begun = c.begun; fill = fill }

-- more text in the buffer
more_text : (handed front text : List ℕ) {all waiting : List ℕ} → all ≡ handed ++ front → waiting ≡ front ++ text → all ++ text ≡ handed ++ waiting
more_text handed front text e added = rw (e, added, append_assoc)

module _ (c : Console) (w : World) (out handed : List ℕ) (p : Program) (h : Holds c w out handed p) where
  -- a line was run
  pub line_run : (v : World) (after : List ℕ) {command : Option Command} {done : Done} {tally : Tally} {line fill : ℕ} {fresh : Partial}
      → command ≡ command_after c.partial []
      → line_seen done.outcome done.state.carried v ≡ line_of command (core_of c.state.carried w.work) (body_of w)
      → line ≡ one_more c.line
      → tally ≡ counted c.tally (answer_of done.outcome)
      → take fill after ≡ take c.fill out ++ text_of line done.outcome
      → ((l : List ℕ) → command_after fresh l ≡ command_of l)
      → Stands (record { state = done.state; tally = tally; line = line; partial = fresh; begun = false; fill = fill }) v after handed (line_taken p)
  unfolding line_taken
  line_run v after {command} {done} {tally} {line} {fill} {fresh} asked runs numbered counts added starts =
      let same : command ≡ command_of p.read = asked ∙ (h.read [] ∙ ap command_of (append-nil p.read)) in
      let l : record { outcome = done.outcome; core = core_of done.state.carried v.work; world = body_of v } ≡ line_of (command_of p.read) p.core p.world =
      rw (same, h.core, h.world) at runs in
      let shown : done.outcome ≡ (line_of (command_of p.read) p.core p.world).outcome = ap (λ (x : Line). x.outcome) l in
      record {
        holds =
            record {
              core = ap (λ (x : Line). x.core) l;
              world = ap (λ (x : Line). x.world) l;
              tally = counts ∙ rw (h.tally, shown);
              line = numbered ∙ ap one_more h.line;
              read = starts;
              text = more_text handed (take c.fill out) _ h.text (rw (numbered, h.line, shown) at added);
            };
        begun = refl;
      }

  -- bytes of a line were read
  pub piece_read : (piece : List ℕ) (partial : Partial) {begun : Bool} → ((more : List ℕ) → command_after partial more ≡ command_after c.partial (piece ++ more))
      → Holds (record { state = c.state; tally = c.tally; line = c.line; partial = partial; begun = begun; fill = c.fill }) w out handed (with_read p piece)
  unfolding with_read
  piece_read piece partial {begun} reads =
      record {
        core = h.core;
        world = h.world;
        tally = h.tally;
        line = h.line;
        read = λ more. reads more ∙ (h.read (piece ++ more) ∙ ap command_of (sym (append_assoc p.read piece more)));
        text = h.text;
      }

-- a line of which something is read has begun
pub has_begun : (p : Program) (piece : List ℕ) → 1 ≤ length piece → true ≡ not (is_empty (with_read p piece).read)
unfolding with_read
has_begun p piece some = go p.read piece some
  where
    go : (a b : List ℕ) → 1 ≤ length b → true ≡ not (is_empty (a ++ b))
    go [] [] h = absurd (omega arith)
    go [] (x ∷ b) h = refl
    go (x ∷ a) b h = refl

-- before the first line nothing is read, and the heading waits
pub console_opened : (state : State) (w v : World) (out after : List ℕ) {fill : ℕ} {fresh : Partial}
    → (core_of state.carried v.work ≡ (formatting (body_of w)).core) × (body_of v ≡ (formatting (body_of w)).world)
    → take fill after ≡ take 0 out ++ heading
    → ((l : List ℕ) → command_after fresh l ≡ command_of l)
    → Stands (record { state = state; tally = record { taken = 0; refused = 0; cut = 0 }; line = 0; partial = fresh; begun = false; fill = fill }) v after [] (started (body_of w))
unfolding started
console_opened state w v out after format added fresh =
    record {
      holds = record { core = format.0; world = format.1; tally = refl; line = refl; read = fresh; text = sym added };
      begun = refl;
    }

module _ (c : Console) (w : World) (out handed : List ℕ) (p : Program) (s : Stands c w out handed p) where
  -- all that waits was handed on
  pub all_handed : Stands (filled c 0) w out p.text p
  all_handed =
      let h = s.holds in
      record {
        holds = record { core = h.core; world = h.world; tally = h.tally; line = h.line; read = h.read; text = sym (append-nil p.text) };
        begun = s.begun;
      }

  -- the tally was added
  pub tally_added : (after : List ℕ) {fill : ℕ} → take fill after ≡ take c.fill out ++ tally_text c.tally.taken c.tally.refused c.tally.cut
      → Stands (filled c fill) w after handed (with_tally p)
  unfolding with_tally
  tally_added after added =
      let h = s.holds in
      record {
        holds =
            record {
              core = h.core;
              world = h.world;
              tally = h.tally;
              line = h.line;
              read = h.read;
              text = more_text handed (take c.fill out) _ h.text (rw h.tally at added);
            };
        begun = s.begun;
      }
