pub mod Cutting
pub mod Digits
pub mod NumberRules
pub mod Numbers
pub mod RefTexts
pub mod Spells
