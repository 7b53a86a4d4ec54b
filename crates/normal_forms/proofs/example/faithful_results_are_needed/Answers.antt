use Rattle.normal_forms.proofs.examples.UnfaithfulExample.{HasFullLists-unfaithful, HasStarterResults-unfaithful, HasNonemptyLists-unfaithful}
use Rattle.normal_forms.proofs.examples.UnfaithfulExample.{IsFront-unfaithful, apart-unfaithful, whole-unfaithful, first-unfaithful}
use Rattle.normal_forms.proofs.example.faithful_results_are_needed.Goals as goal

pub returns : goal.returns
returns c = record {
  full = HasFullLists-unfaithful;
  starters = HasStarterResults-unfaithful;
  are_nonempty = HasNonemptyLists-unfaithful;
  front = IsFront-unfaithful;
  apart = apart-unfaithful;
  whole = whole-unfaithful;
  first = first-unfaithful;
}
