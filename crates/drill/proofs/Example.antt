-- The example of document 01, 'The drill', and lines that are bad, computed on the definition of the whole run: one
-- table with one theorem.
use mathlib.Core.Path.{◌≡◌, refl}
use mathlib.Core.List.{List, [], ◌∷◌, map}
use Prim.Native.Nat.{ℕ}
use Prim.Native.Char.{code}
use Prim.Native.String.{String, [] as noText, ◌∷◌ as ◌then◌}
use Rattle.crew.specs.Acceptance.{accept_of}
use Rattle.crew.specs.Group.{among, validates}
use Rattle.writer.specs.Writing.{write_message_of}
use Rattle.wire.specs.Entry.{entries_from}
use Rattle.message.specs.Reading.{entries_in, body_at, tested, front_of, all_zero, read_of}
use Rattle.message.specs.Encoding.{entry_bytes, encode}
use Rattle.message.specs.Bounds.{entries_ok}
use Rattle.ballot.specs.Decision.{decides, decision}
use Rattle.ballot.specs.Count.{tally, count_if, gather}
use Rattle.ballot.specs.Validation.{valid, validated}
use Rattle.ballot.specs.Ballot.{lists}
use Rattle.ballot.specs.Selection.{possible, backed, backing, enough, selection, leading, most_voted, any_plan, taken}
use Rattle.ballot.specs.Least.{least, least_of}
use Rattle.node.specs.Soundness.{empty_from, sound}
use Rattle.node.specs.Record.{begun, blank}
use Rattle.node.specs.Starting.{start_of}
use Rattle.node.specs.Sending.{coming_of, write_coming_of}
use Rattle.rounds.specs.Taking.{after_round, take_of}
use Rattle.script.specs.Commands.{line_of}
use Rattle.script.specs.Lines.{until, onto, split}
use Rattle.script.specs.Fields.{value_from, number_of, numbers_from, starts}
use Rattle.print.specs.Texts.{decimal_of, field_of, fields_from, result_line, bad_line}
use Rattle.pending.specs.Pairs.{nothing, with_cut, with_say, waiting_from}
use Rattle.drill.specs.Run.{follow, second, first, drill_of}
use Rattle.aisle.specs.Start.{begun_of}
use Rattle.wire.specs.Below.{table}
use Rattle.aisle.specs.Round.{say_buffer, slots_of, slot_from, node_after, results_of, go_of}

-- a text's bytes: each of its characters is one of ASCII
abbrev bytes : String → List ℕ
bytes noText = []
bytes (c then text) = code c ∷ bytes text

-- a script, and all that it prints
record Example : Type 0 where
  script : String
  output : String

abbrev ◌prints◌ : String → String → Example
◌prints◌ script output = record { script = script; output = output }

infix 20 ◌prints◌
abbrev examples : List Example
examples =
    -- 01: "Input `3 4 1 0 3`, `5 5 5 0`, three `go`. Whole output:". All nodes are the group.
    ("3 4 1 0 3 4\n5 5 5 0\ngo\ngo\ngo\n" prints "1 1 0 0 0 -\n1 2 0 0 0 -\n1 3 5 5 5 -\nend\n")
    -- bad lines: no input, a crew without its group, one whose group is too small, line 2 missing, an empty line 3, a
    -- go that is not ended, a say from node 0, an honest one
    ∷ ("" prints "bad 1\n")
    ∷ ("3 4 1 0 3\n5 5 5 0\n" prints "bad 1\n")
    ∷ ("3 4 1 0 3 3\n5 5 5 0\n" prints "bad 1\n")
    ∷ ("3 4 1 0 3 4\n" prints "bad 2\n")
    ∷ ("3 4 1 0 3 4\n5 5 5 0\n\n" prints "bad 3\n")
    ∷ ("3 4 1 0 3 4\n5 5 5 0\ngo" prints "bad 3\n")
    ∷ ("3 4 1 0 3 4\n5 5 5 0\nsay 0 1 6 0\n" prints "bad 3\n")
    ∷ []

-- every script of the table prints what stands beside it
pub examples_hold : map (λ e. drill_of (bytes e.script)) examples ≡ map (λ e. bytes e.output) examples
unfolding
    accept_of among validates write_message_of entries_from entries_in body_at tested front_of all_zero read_of
    entry_bytes encode entries_ok decides decision tally count_if gather valid validated lists possible backed backing
    enough selection leading most_voted any_plan taken least least_of empty_from sound begun blank start_of coming_of
    write_coming_of after_round take_of line_of until onto split value_from number_of numbers_from starts decimal_of
    field_of fields_from result_line bad_line nothing with_cut with_say waiting_from follow second first drill_of
    begun_of table say_buffer slots_of slot_from node_after results_of go_of
examples_hold = refl
