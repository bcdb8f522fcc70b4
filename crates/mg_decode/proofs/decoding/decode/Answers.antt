use Rattle.std.proofs.Common.{refl}
use Rattle.mg_decode.proofs.DecodedLaws.{decoded_by}
use Rattle.mg_decode.proofs.decoding.decode.Goals as goal

pub returns-clause-decoded : goal.returns-clause-decoded
returns-clause-decoded g c = λ input err err_now. decoded_by _ _ c.decode_files.result refl
    c.decode_files.ensures.content c.decode_files.ensures.silent c.decode_files.ensures.bounded c.decode_files.ensures.memory
    c.decode_files.ensures.cause c.decode_files.ensures.not_built c.decode_files.ensures.complete
    c.decode_files.ensures.files c.decode_files.ensures.reads refl
