-- A store that compares what is written into it with what stands in a part: what contracts see of it.
--
-- Who writes into a store promises no more of it than of the files, the reads and the faults that it tells. So what such a
-- store is made of is told there too, as numbers: a count of reads behind its end stands still.
use Rattle.std.specs.Prelude.{ℕ, ◌+◌, ◌*◌, ◌^◌, ◌==◌, if◌then◌else◌, List, [], ◌∷◌, ◌++◌, take, drop, codes, flat_map, None, Some}
use Rattle.std.specs.FinMap.{entries}
use Rattle.std.specs.declared.option.Option.{Option}
use Rattle.mg_dev.specs.Files.{Files, Reads, bytes_at, no_files, written}
use Rattle.mg_dev.specs.Names.{full_name}
use Rattle.mg_dev.specs.declared.part.Part.TheVariants.{Head, Words, Nonwords, Text, Places, Lex, LexAt, MergeA, MergeB, Plain}

-- ---- numbers that tell lists and files, each another one

unfoldable pub code : List ℕ → ℕ
code [] = 0
code (x ∷ xs) = 2 ^ x * (2 * code xs + 1)

abbrev pub coded_entries : List (List ℕ × List ℕ) → List ℕ
coded_entries es = flat_map (λ (e : List ℕ × List ℕ). code e.0 ∷ code e.1 ∷ []) es

unfoldable pub code_of_files : Option Files → ℕ
code_of_files None = 0
code_of_files (Some files) = code (coded_entries (entries files)) + 1

-- ---- the file that is written

-- its name
abbrev pub own_name : List ℕ
own_name = full_name (codes "w") Plain

-- what was written: so many bytes of a part from a place on, and these behind them
abbrev pub followed : Option Files → List ℕ → ℕ → ℕ → List ℕ → List ℕ
followed files name from standing rest = take standing (drop from (bytes_at files name)) ++ rest

-- no file, where files are told
abbrev pub emptied : Option Files → Option Files
emptied None = None
emptied (Some files) = Some no_files

-- the files that it tells
abbrev pub told_files : Option Files → List ℕ → ℕ → ℕ → List ℕ → Option Files
told_files files name from standing rest = written (emptied files) own_name (followed files name from standing rest)

-- the reads that it tells: the ghost name of the store that it compares with, where the bytes begin, the name of the part
-- and the files of that store, and its reads of parts that are none of a set
unfoldable pub told_reads : ℕ → ℕ → List ℕ → Option Files → Reads → ℕ → Reads
told_reads ghost_is from name files reads looked Head = 2 ^ 64 + ghost_is
told_reads ghost_is from name files reads looked Words = 2 ^ 64 + from
told_reads ghost_is from name files reads looked Nonwords = 2 ^ 64 + code name
told_reads ghost_is from name files reads looked Text = 2 ^ 64 + code_of_files files
told_reads ghost_is from name files reads looked Places = 2 ^ 64 + reads MergeA
told_reads ghost_is from name files reads looked Lex = 2 ^ 64 + reads MergeB
told_reads ghost_is from name files reads looked LexAt = 2 ^ 64 + reads Plain
told_reads ghost_is from name files reads looked Plain = looked
told_reads ghost_is from name files reads looked part = 2 ^ 64

-- the faults that it tells: beside those of that store it fails where it is read
abbrev pub told_faults : ℕ → ℕ → ℕ
told_faults faults looked = if looked == 0 then faults else faults + 2 ^ 64
