-- What a piece reader has read after an offer and a turn.
use Rattle.std.proofs.Common.{◌≡◌, ℕ, ◌+◌, ◌<◌, true, List, [], ◌∷◌, ◌++◌, length, take, set, sym, arith, length-take-le}
use Rattle.std.proofs.lemmas.List.{take_more_set}
use Rattle.mg_defs.specs.declared.Stream.{Stream}
use Rattle.mg_defs.specs.Parse.{is_of_kind}
use Rattle.mg_defs.specs.Pieces.{OpenPiece, Reads, other_kind}
use Rattle.mg_defs.proofs.PieceLaws.{reads_taken, reads_turned}
use Rattle.mg_parse.specs.Offered.{Ends}

pub turned : (old : OpenPiece) (kind : Stream) (told : List (List ℕ)) (doc : List ℕ) (byte : ℕ) → kind ≡ other_kind old.kind → Ends old byte →
    Reads old told doc (byte ∷ []) → Reads (record { kind = kind; piece = [] }) (told ++ old.piece ∷ []) doc (byte ∷ [])
turned old kind told doc byte is ended h = rw is (reads_turned old told doc byte ended h)

pub taken : (old : OpenPiece) (kind : Stream) (len : ℕ) (buffer : List ℕ) (told : List (List ℕ)) (doc : List ℕ) (byte : ℕ) →
    record { kind = kind; piece = take len buffer } ≡ old → is_of_kind kind byte ≡ true → len < 255 → length buffer ≡ 255 → Reads old told doc (byte ∷ []) →
    Reads (record { kind = kind; piece = take (len + 1) (set buffer len byte) }) told (doc ++ byte ∷ []) []
taken old kind len buffer told doc byte is of_kind room whole h =
    let within : len < length buffer = omega arith in
    let long = length-take-le len buffer (omega arith) in
    let was = rw (sym is) at h in
    rw (take_more_set buffer len byte within) (reads_taken (record { kind = kind; piece = take len buffer }) told doc byte of_kind (omega (arith, long)) was)
