pub mod CompiledClasses
