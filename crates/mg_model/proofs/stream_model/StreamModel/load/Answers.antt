use Rattle.mg_model.proofs.Loading.{load-broken, load-read, load-short}
use Rattle.mg_model.proofs.stream_model.StreamModel.load.Goals as goal

pub returns-in-Err : goal.returns-in-Err
returns-in-Err g c = load-short c.in-Err.ensures.files c.in-Err.ensures.reads c.in-Err.ensures.cause c.in-Err.ensures.answer

pub returns-in-Err-read_pieces : goal.returns-in-Err-read_pieces
returns-in-Err-read_pieces g c =
    load-broken c.in-Ok.ensures.files c.in-Ok.ensures.reads c.in-Ok.ensures.cause.later c.in-Ok.ensures.answer c.in-Err-read_pieces.ensures

pub returns-in-Ok-read_pieces : goal.returns-in-Ok-read_pieces
returns-in-Ok-read_pieces g c =
    load-read c.in-Ok.ensures.files c.in-Ok.ensures.reads c.in-Ok.ensures.cause.later c.in-Ok.ensures.answer c.in-Ok-read_pieces.ensures
    c.of_read.ensures.answer c.of_read.ensures.device
