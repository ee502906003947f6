use Rattle.worked_texts.proofs.Bytes.{texts_are_tokens}
use Rattle.worked_texts.proofs.texts_are_tokens.Goals as goal

pub returns : goal.returns
returns c = texts_are_tokens
