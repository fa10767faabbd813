mod Systems
mod Steps
mod Keys
mod Numbering
mod Keywords
mod Cutting
mod Spelled
mod Finish
mod Unspelled
mod OneRight
pub mod SomeAnswer
mod Tables
pub mod Named
pub mod KindLists
pub mod Real
