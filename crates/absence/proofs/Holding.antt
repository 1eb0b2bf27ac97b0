-- Every window that adds make from an empty one holds the newest 100 of the records that were added, and its counts are
-- those worked out afresh from these: `window_holds`.
use mathlib.Core.Path.{◌≡◌, refl, ap, ◌∙◌}
use mathlib.Core.Bool.{Bool, true, false, not, cond}
use mathlib.Core.List.{List, [], ◌∷◌, ◌++◌}
use Rattle.wire.specs.Below.{table}
use Rattle.wire.specs.Outcome.{Outcome, accepted, require, value_or, verdict}
use Rattle.absence.specs.declared.Run.{Run}
use Rattle.absence.specs.declared.Window.{Window}
use Rattle.absence.specs.Held.{most_held, newest, repeats, with_room, held_with, added_after}
use Rattle.absence.specs.Ring.{empty_window, with_run, add_of, window_after, held_in, Holds}
use Rattle.absence.proofs.Rings.{Keeps, empty_keeps, repeat_same, held_next_lem, run_keeps}
use Rattle.absence.proofs.Newest.{newest_next}

-- What an add gives, beside what 02 says of the records held: the same answer, these records, and a window that keeps.
pub record Follows (w : Window) (given : Outcome Window) (told : Outcome (List Run)) : Type 0 where
  pub answer : verdict given ≡ verdict told
  pub held : held_in (value_or w given) ≡ value_or (held_in w) told
  pub keeps : Keeps (value_or w given)

pub add_follows : (w : Window) (run : Run) → Keeps w → Follows w (add_of w run) (held_with (held_in w) run)
unfolding add_of held_with
add_follows w run keeps = rw (repeat_same w run keeps) (go (not (repeats (held_in w) run)))
  where
    go : (fresh : Bool)
        → Follows w (require fresh 23 (accepted (with_run w run)))
        (require fresh 23 (accepted (with_room (held_in w) ++ (run ∷ []))))
    go true = record { answer = refl; held = held_next_lem w run keeps; keeps = run_keeps w run keeps }
    go false = record { answer = refl; held = refl; keeps = keeps }

-- so any list of adds does
adds_keep : (runs : List Run) (w : Window) → Keeps w → Keeps (window_after w runs)
unfolding window_after
adds_keep [] w keeps = keeps
adds_keep (run ∷ runs) w keeps = adds_keep runs (value_or w (add_of w run)) (add_follows w run keeps).keeps

adds_held : (runs added : List Run) (w : Window) → Keeps w → held_in w ≡ newest most_held added
    → held_in (window_after w runs) ≡ newest most_held (added_after added runs)
unfolding window_after added_after
adds_held [] added w keeps same = same
adds_held (run ∷ runs) added w keeps same =
    let follows = add_follows w run keeps in
    adds_held runs (cond (repeats added run) added (added ++ (run ∷ []))) (value_or w (add_of w run)) follows.keeps
    (follows.held ∙ ap (λ (held : List Run). value_or held (held_with held run)) same ∙ newest_next added run)

pub empty_held : held_in empty_window ≡ []
unfolding empty_window table
empty_held = refl

pub window_holds : (runs : List Run) → Holds runs (window_after empty_window runs)
window_holds runs =
    let keeps = adds_keep runs empty_window empty_keeps in
    record {
      held = adds_held runs [] empty_window empty_keeps empty_held;
      counts = keeps.counts;
      answers = λ run. (add_follows (window_after empty_window runs) run keeps).answer;
    }
