-- How the judgement of what is left of a row goes on, step by step.
pub mod Judging
