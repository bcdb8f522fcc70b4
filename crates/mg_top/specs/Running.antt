-- The run of a tool, by what the types of its devices tell.
use Rattle.std.specs.declared.result.Result.{Result}
use Rattle.mg_dev.specs.Moments.{SinkAt, SourceAt, StoreAt, sink_at, source_at, store_at}
use Rattle.mg_dev.specs.Runs.{Run, status_of}
use Rattle.mg_dev.specs.declared.fault.Fault.{Fault}
use Rattle.mg_dev.specs.declared.sink.Sink as sinks
use Rattle.mg_dev.specs.declared.source.Source as sources
use Rattle.mg_dev.specs.declared.status.Status.{Status}
use Rattle.mg_dev.specs.declared.store.Store as stores

-- a run over a store, an input, an output and an error output
abbrev pub RunsBy : {X Y Z W : Type 0} → stores.Ghosts X → sources.Ghosts Y → sinks.Ghosts Z → sinks.Ghosts W
    → X → X → Y → Y → Z → Z → W → W → Status → (Run → Type 0) → Type 0
RunsBy of_store of_input of_out of_err store store_now input input_now out out_now err err_now result holds =
    holds (record {
      store = store_at of_store.files of_store.reads of_store.faults store;
      store_now = store_at of_store.files of_store.reads of_store.faults store_now;
      input = source_at of_input.left of_input.faults input;
      input_now = source_at of_input.left of_input.faults input_now;
      out = sink_at of_out.written of_out.faults of_out.lacks out;
      out_now = sink_at of_out.written of_out.faults of_out.lacks out_now;
      err = sink_at of_err.written of_err.faults of_err.lacks err;
      err_now = sink_at of_err.written of_err.faults of_err.lacks err_now;
      status = result;
    })

-- the run of a call over a store and an output: so it is whatever the input is, which is not read, and whatever the error output is
abbrev pub RunsByStore : {X Z T : Type 0} → stores.Ghosts X → sinks.Ghosts Z → X → X → Z → Z → Result T Fault →
    (Run → Type 0) → Type 0
RunsByStore of_store of_out store store_now out out_now result holds = (input : SourceAt) (err err_now : SinkAt) →
    holds (record {
      store = store_at of_store.files of_store.reads of_store.faults store;
      store_now = store_at of_store.files of_store.reads of_store.faults store_now;
      input = input;
      input_now = input;
      out = sink_at of_out.written of_out.faults of_out.lacks out;
      out_now = sink_at of_out.written of_out.faults of_out.lacks out_now;
      err = err;
      err_now = err_now;
      status = status_of result;
    })

-- the run of a call over an output: so it is whatever the store and the input are, which are not touched, and whatever the error output is
abbrev pub RunsAlone : {Z T : Type 0} → sinks.Ghosts Z → Z → Z → Result T Fault → (Run → Type 0) → Type 0
RunsAlone of_out out out_now result holds = (store : StoreAt) (input : SourceAt) (err err_now : SinkAt) → holds (record {
  store = store;
  store_now = store;
  input = input;
  input_now = input;
  out = sink_at of_out.written of_out.faults of_out.lacks out;
  out_now = sink_at of_out.written of_out.faults of_out.lacks out_now;
  err = err;
  err_now = err_now;
  status = status_of result;
})
