-- What a check reads of a store.
use Rattle.std.specs.Prelude.{◌≡◌}
use Rattle.mg_dev.specs.Files.{Reads}
use Rattle.mg_dev.specs.declared.part.Part.TheVariants.{MergeA, MergeB, Plain}

-- only parts of a set were read: not those that a merge of runs works with, and not the plain text
pub record ReadsSet (before now : Reads) : Type 0 where
  pub merge_a : now MergeA ≡ before MergeA
  pub merge_b : now MergeB ≡ before MergeB
  pub plain : now Plain ≡ before Plain
