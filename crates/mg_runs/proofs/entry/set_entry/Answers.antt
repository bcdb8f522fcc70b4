use Rattle.std.proofs.Common.{◌∙◌, ap, ◌++◌, ◌∷◌, [], length, ◌≡◌, List, ℕ}
use Rattle.mg_runs.specs.Bytes.{entries_in, entry_in, bytes_of}
use Rattle.mg_runs.proofs.Chunks.{entries-put, entry-of-bytes, length-bytes_of}
use Rattle.mg_runs.proofs.entry.set_entry.Goals as goal

pub returns : goal.returns
returns c =
    let made : List ℕ = c.copy_from_slice.new.self in
    let e : made ≡ bytes_of c.args.term c.args.doc = c.copy_from_slice.ensures.after ∙ c.entry_bytes-made.ensures in
    let whole : length made ≡ 8 = ap (λ t. length t) e ∙ length-bytes_of c.args.term c.args.doc in
    let one = entry-of-bytes c.args.term c.args.doc c.ranges.term.fits c.ranges.doc.fits in
    entries-put c.args.count c.args.bytes.now made c.requires whole ∙ ap (λ t. entries_in c.args.count c.args.bytes.now ++ t ∷ []) (ap (λ t. entry_in t) e ∙ one)
