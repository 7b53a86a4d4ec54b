use Rattle.normalizer_text.proofs.rules.EncodingLemmas.{DecodesBack-in, encoded-decoded, encoded_in-append}
use Rattle.normalizer_text.proofs.laws.well_formed_where_encoded.Goals as goal

pub returns-clause-encoded : goal.returns-clause-encoded
returns-clause-encoded c = encoded-decoded

pub returns-clause-back : goal.returns-clause-back
returns-clause-back c = λ e x t. (DecodesBack-in e x t).text

pub returns-clause-well_formed : goal.returns-clause-well_formed
returns-clause-well_formed c = λ e x t. (DecodesBack-in e x t).well_formed

pub returns-clause-append : goal.returns-clause-append
returns-clause-append c = encoded_in-append
