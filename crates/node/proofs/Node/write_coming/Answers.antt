-- For a sound, unspent record each round's writer leaves the answer and the buffer that the node is to leave.
use Rattle.std.proofs.Common.{◌≡◌, ◌≢◌, ◌≤◌, true, false, rules}
use Rattle.crew.specs.Group.{validates}
use Rattle.node.specs.Sending.{confirming}
use Rattle.node.proofs.Coming.{confirms, decides}
use Rattle.node.proofs.Facts.{sound_facts, last_round}
use Rattle.node.proofs.SendLaws.{message_written, selection_written, silence_written}
use Rattle.node.proofs.Node.write_coming.Goals as goal

pub returns-in-1 : goal.returns-in-1
returns-in-1 c =
    selection_written c.requires _ c.in-1.is c.listed_phases.ensures c.write_selection.ensures

pub returns-else-not-is_plan : goal.returns-else-not-is_plan
returns-else-not-is_plan c =
    let d = c.args.self.now in
    let turn : validates d.crew d.phase d.own ≡ true = search rules in
    let plan : 1 ≤ d.select = search rules in
    message_written c.requires _ (confirms c.in-2.is turn plan) c.write_validation.ensures

pub returns-then-not-is_plan : goal.returns-then-not-is_plan
returns-then-not-is_plan c =
    let silent : confirming c.args.self.now ≡ false = search rules in
    silence_written c.requires _ c.in-2.is silent

pub returns-in_default : goal.returns-in_default
returns-in_default c =
    let d = c.args.self.now in
    let first : d.round ≢ 1 = search rules in
    let second : d.round ≢ 2 = search rules in
    message_written c.requires _ (decides (last_round (sound_facts _ c.requires.is_sound) first second))
    c.write_decision.ensures
