mod Names
mod Sayings
mod Spelled
mod Walks
mod ModelForms
mod FormTrees
mod Classes
