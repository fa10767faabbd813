pub mod TextsOfModels
