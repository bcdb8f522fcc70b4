-- The plans of failures of the devices in memory, the calls of the one that has no plan, and how much a read gives.
use Rattle.std.specs.Prelude.{◌≡◌, ℕ, min, max, List, [], length, take, unwrap_or, IfOk, IfSome}
use Rattle.std.specs.declared.option.Option.{Option}
use Rattle.std.specs.declared.result.Result.{Result}
use Rattle.mg_dev.specs.Files.{Files, kept}
use Rattle.mg_mem.specs.Plans.{next_keep}
use Rattle.mg_dev.specs.Streams.{appended}
use Rattle.mg_mem.specs.declared.failure_plan.FailurePlan.{FailurePlan}
use Rattle.mg_mem.specs.declared.mem_store.MemStore.{MemStore}
use Rattle.mg_mem.specs.declared.mem_source.MemSource.{MemSource}
use Rattle.mg_mem.specs.declared.mem_sink.MemSink.{MemSink}
use Rattle.mg_mem.specs.declared.sure_store.SureStore.{SureStore}
use Rattle.mg_mem.specs.declared.sure_source.SureSource.{SureSource}

-- which calls of the store fail
abbrev pub store_plan : MemStore → FailurePlan
store_plan store = store.plan

-- which reads of the source fail
abbrev pub source_plan : MemSource → FailurePlan
source_plan source = source.plan

-- which puts to the sink fail
abbrev pub sink_plan : MemSink → FailurePlan
sink_plan sink = sink.plan

-- where the plan says of the next call how much it keeps, so much of the piece was added to the file; `files` tells those of the store
abbrev pub AppendKept : (MemStore → Option Files) → MemStore → MemStore → List ℕ → List ℕ → Type 0
AppendKept files before now name piece = IfSome (next_keep (store_plan before))
    (λ count. files now ≡ kept (files before) name (take count piece))

-- where the plan says of the next put how much it keeps, so much of the piece was added; `written` tells what the sink holds
abbrev pub PutKept : (MemSink → Option (List ℕ)) → MemSink → MemSink → List ℕ → Type 0
PutKept written before now piece = IfSome (next_keep (sink_plan before))
    (λ count. written now ≡ appended (written before) (take count piece))

-- how many calls of the store there were
abbrev pub store_calls : SureStore → ℕ
store_calls store = store.calls

-- how many bytes a read of the source gives at most
abbrev pub sure_step : SureSource → ℕ
sure_step source = max source.step 1

abbrev pub mem_step : MemSource → ℕ
mem_step source = sure_step source.inner

-- a read gave as many bytes as are left, as the buffer takes and as a read gives at most
abbrev pub GivesStep : {E : Type 0} → ℕ → Option (List ℕ) → List ℕ → Result ℕ E → Type 0
GivesStep step left buf result = IfOk result (λ n. n ≡ min (min (length (unwrap_or left [])) (length buf)) step)
