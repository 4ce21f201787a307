-- The engine's words for a store that is opened or isn't, as the commands above say them: a library that names them
-- here needn't name the engine.
pub use Rattle.ad_engine_store.specs.Opening.{Refuses, IsOpenedAs}
pub use Rattle.ad_engine_store.specs.declared.fault.OpenFault.{OpenFault}
