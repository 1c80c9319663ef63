use Rattle.route_installer.proofs.CutOutput.{beginnings_are_notes, cuts_agree, logs_are_first, output_agrees}
use Rattle.route_installer.proofs.GivenLines.{beginnings_are_carried_out, notes_give_batches, output_is_given, output_reads_back}
use Rattle.route_installer.proofs.laws.carried_out.Goals as goal

pub returns : goal.returns
returns c = record {
  lines = output_is_given;
  batches = notes_give_batches;
  read = output_reads_back;
  notes = beginnings_are_notes;
  logs = logs_are_first;
  hops = output_agrees;
  operations = beginnings_are_carried_out;
  times = cuts_agree;
}
