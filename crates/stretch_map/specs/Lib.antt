pub mod Contents
pub mod RuleLaws
pub mod Rules
pub mod Stretches
