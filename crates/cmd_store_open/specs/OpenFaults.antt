-- Why slots represent no directory, cause by cause.
pub use Rattle.ad_engine_store.specs.declared.fault.OpenFault.TheVariants.{Taken, Empty, Broken, Row, Unsound, Site, Memory}
