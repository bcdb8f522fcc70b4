-- The files that a list of named files stands for: the first of a name counts.
use Rattle.std.specs.Prelude.{ℕ, List, [], ◌∷◌, position}
use Rattle.std.specs.Str.{bytes_eq}
use Rattle.std.specs.declared.option.Option.{Option}
use Rattle.mg_mem.specs.declared.shelf.MemFile.{MemFile}
use Rattle.mg_dev.specs.Files.{Files, no_files, put}

abbrev pub files_of : List MemFile → Files
files_of [] = no_files
files_of (e ∷ es) = put (files_of es) e.name.items e.bytes.items

-- where the file of a name stands
abbrev pub is_at : List ℕ → List MemFile → Option ℕ
is_at name es = position (λ e. bytes_eq e.name.items name) es
