use Rattle.mg_text_writer.proofs.DocumentLaws.{text_holds, text_is, text_within}
use Rattle.mg_text_writer.proofs.laws.text_has_its_documents.Goals as goal

pub returns-clause-text : goal.returns-clause-text
returns-clause-text c = text_is

pub returns-clause-holds : goal.returns-clause-holds
returns-clause-holds c = text_holds

pub returns-clause-size : goal.returns-clause-size
returns-clause-size c = text_within

pub returns-clause-bytes : goal.returns-clause-bytes
returns-clause-bytes c base files docs stands = stands.bytes
